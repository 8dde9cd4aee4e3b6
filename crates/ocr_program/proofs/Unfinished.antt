-- No program ends in a function.
use Rattle.std.proofs.Common.{◌≡◌, None, refl}
use Rattle.ocr_program_parser.specs.Machine as m
use Rattle.ocr_program_parser.specs.View.{wanted_of}
use Rattle.ocr_program_parser.specs.declared.states.Wanted.{Wanted}
use Rattle.ocr_program_parser.specs.declared.states.Wanted.TheVariants as wanted

pub unfinished : (h : m.Position) (w : Wanted) → None ≡ m.program_of (wanted_of h w)
unfinished h wanted.Statement = refl
unfinished h wanted.LetName = refl
unfinished h (wanted.LetEquals x) = refl
unfinished h (wanted.AssignEquals x) = refl
unfinished h (wanted.AfterCall call) = refl
unfinished h (wanted.MayElse e first) = refl
unfinished h (wanted.ElseOpen e first) = refl
unfinished h (wanted.Operand k) = refl
unfinished h (wanted.IndexOpen i k) = refl
unfinished h (wanted.CallOpen c k) = refl
unfinished h (wanted.CallEnd c args k) = refl
unfinished h (wanted.ListOpen c args k) = refl
unfinished h (wanted.ListStart c args k) = refl
unfinished h (wanted.NameAt c args k) = refl
unfinished h (wanted.AfterArgument c args k) = refl
unfinished h (wanted.OutputAnd c args k) = refl
unfinished h (wanted.OutputName c args k) = refl
unfinished h (wanted.AfterOperand k e) = refl
