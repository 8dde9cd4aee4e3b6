use Rattle.std.proofs.Common.{◌≡◌, true, List, drop, Result, Ok, Err}
use Rattle.std.specs.Prelude.{IfOk, IfErr}
use Rattle.std.proofs.lemmas.Result.{IfOk-weaker}
use Rattle.clap.specs.Words.{App, FailsBy, HasMatchesOf, fault_of, found_of, is_simple_and_free, kind_of}
use Rattle.clap.specs.declared.error.Error.{Error}
use Rattle.clap.specs.declared.error.kind.ErrorKind.TheVariants as kind
use Rattle.clap.specs.declared.parser.matches.ArgMatches.{ArgMatches}
use Rattle.ocr_run_command.specs.Form.{Line, IsLineOf, Text}
use Rattle.ocr_run_command.specs.Numerals.{AreNumerals}
use Rattle.ocr_run_command.specs.Given.{Reads}
use Rattle.ocr_run_command.specs.Reader.{reader_app}
use Rattle.ocr_run_command.proofs.Readings.{line_read, every_read, none_read}
use Rattle.ocr_run_command.proofs.given.matches_in.Goals as goal

line : (a : App) (ts : List Text) (r : Result ArgMatches Error) → a ≡ reader_app → (is_simple_and_free a ≡ true → FailsBy (fault_of a ts) r) → IfOk r (HasMatchesOf a ts)
    → IfOk r (λ m. (l : Line) × IsLineOf l (drop 1 ts) × Reads (found_of m) l)
line a ts (Ok m) is kinds matches = line_read a ts (found_of m) is kinds (λ simple. (matches simple).0)
line a ts (Err e) is kinds matches = tt

none : (a : App) (ts : List Text) (r : Result ArgMatches Error) → a ≡ reader_app → (is_simple_and_free a ≡ true → FailsBy (fault_of a ts) r)
    → IfErr r (λ e. (kind_of e ≡ kind.OutOfMemory → ⊥) → (l : Line) → IsLineOf l (drop 1 ts) → AreNumerals l.pieces → ⊥)
none a ts (Ok m) is kinds = tt
none a ts (Err e) is kinds = none_read a ts e is kinds

pub returns-clause-line : goal.returns-clause-line
returns-clause-line c = line _ _ c.try_get_matches_from.result c.in_ok-reader.ensures c.try_get_matches_from.ensures.kinds c.try_get_matches_from.ensures.matches

pub returns-clause-every : goal.returns-clause-every
returns-clause-every c = IfOk-weaker c.try_get_matches_from.result _ _
    (λ m matches. every_read _ _ (found_of m) c.in_ok-reader.ensures (λ simple. (matches simple).0)) c.try_get_matches_from.ensures.matches

pub returns-clause-refused : goal.returns-clause-refused
returns-clause-refused c = none _ _ c.try_get_matches_from.result c.in_ok-reader.ensures c.try_get_matches_from.ensures.kinds
