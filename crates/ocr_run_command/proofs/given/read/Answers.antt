use Rattle.std.proofs.Common.{◌≡◌, ◌∙◌, sym, List, codes, drop, Result, Ok, Err}
use Rattle.std.specs.Prelude.{◌↔◌, IfOk, IfErr, IsErrAnd, IsSome}
use Rattle.clap.specs.Words.{found_of, kind_of, matched_of}
use Rattle.clap.specs.declared.error.Error.{Error}
use Rattle.clap.specs.declared.error.kind.ErrorKind.TheVariants as kind
use Rattle.clap.specs.declared.parser.matches.ArgMatches.{ArgMatches}
use Rattle.ocr_run_command.specs.Form.{Line, IsLineOf, Text, said, texts_of}
use Rattle.ocr_run_command.specs.Numerals.{AreNumerals}
use Rattle.ocr_run_command.specs.Given.{Gives, Reads}
use Rattle.ocr_run_command.specs.declared.given.Arguments.{Arguments}
use Rattle.ocr_run_command.specs.declared.wanted.WordsStop.{WordsStop}
use Rattle.ocr_run_command.specs.declared.wanted.WordsStop.TheVariants.{Refused, NoMemory}
use Rattle.ocr_run_command.proofs.given.read.Goals as goal

abbrev Keeps : ArgMatches → Result Arguments WordsStop → Type 0
Keeps m r = IfOk r (λ g. (l : Line) → Reads (found_of m) l → Gives g (said l))

abbrev Stops : Result ArgMatches Error → Result Arguments WordsStop → Type 0
Stops a r = IfErr a (λ e. IsErrAnd r (λ stop. (stop ≡ NoMemory) ↔ (kind_of e ≡ kind.OutOfMemory)))

apart : Refused ≡ NoMemory → ⊥
apart e = cc e

one : (ts : List Text) (a : Result ArgMatches Error) (r : Result Arguments WordsStop) → IfOk a (λ m. (l : Line) × IsLineOf l (drop 1 ts) × Reads (found_of m) l) → IfOk a (λ m. Keeps m r) → Stops a r
    → IfOk r (λ g. (l : Line) × IsLineOf l (drop 1 ts) × Gives g (said l))
one ts (Ok m) (Ok g) line gives stops = (line.0, line.1, gives line.0 line.2)
one ts a (Err stop) line gives stops = tt
one ts (Err e) (Ok g) line gives stops = absurd stops

every : (ts : List Text) (a : Result ArgMatches Error) (r : Result Arguments WordsStop) → IfOk a (λ m. (l : Line) → IsLineOf l (drop 1 ts) → AreNumerals l.pieces → Reads (found_of m) l)
    → IfOk a (λ m. Keeps m r) → Stops a r → IfOk r (λ g. (l : Line) → IsLineOf l (drop 1 ts) → AreNumerals l.pieces → Gives g (said l))
every ts (Ok m) (Ok g) reads gives stops = λ l line digits. gives l (reads l line digits)
every ts a (Err stop) reads gives stops = tt
every ts (Err e) (Ok g) reads gives stops = absurd stops

none : (a : Result ArgMatches Error) (r : Result Arguments WordsStop) (P : Type 0) (Q : ArgMatches → Type 0) → IfErr a (λ e. (kind_of e ≡ kind.OutOfMemory → ⊥) → P)
    → IfOk a (λ m. IfErr r (λ stop. (stop ≡ NoMemory) × Q m)) → Stops a r → IfErr r (λ stop. stop ≡ Refused → P)
none a (Ok g) P Q refused memory stops = tt
none (Ok m) (Err stop) P Q refused memory stops = λ is. absurd (apart (sym is ∙ memory.0))
none (Err e) (Err stop) P Q refused memory stops = λ is. refused (λ out. apart (sym is ∙ stops.1 out))

pub returns-clause-line : goal.returns-clause-line
returns-clause-line c = one (texts_of c.args.words.now) c.matches_in.result c.given_from.result c.matches_in.ensures.line c.given_from.ensures.given c.given_from.ensures.stopped

pub returns-clause-every : goal.returns-clause-every
returns-clause-every c = every (texts_of c.args.words.now) c.matches_in.result c.given_from.result c.matches_in.ensures.every c.given_from.ensures.given c.given_from.ensures.stopped

pub returns-clause-refused : goal.returns-clause-refused
returns-clause-refused c = none c.matches_in.result c.given_from.result ((l : Line) → IsLineOf l (drop 1 (texts_of c.args.words.now)) → AreNumerals l.pieces → ⊥)
    (λ m. IsSome (matched_of (found_of m) (codes "numbers"))) c.matches_in.ensures.refused c.given_from.ensures.memory c.given_from.ensures.stopped
