use Rattle.std.proofs.Common.{◌≡◌, ◌++◌, ℕ, List, drop}
use Rattle.ocr_acquire.specs.declared.Mode.{Mode}
use Rattle.ocr_datablock.specs.Steps.{StandOnce}
use Rattle.ocr_datablock.proofs.holders.Holders.take_off.Given as goal

abbrev pub invariant-loop-edt : goal.invariant-loop-edt
invariant-loop-edt l = record {
  once : StandOnce l.self;
  last : (holders : List (ℕ × Mode)) → l.fn.self ≡ holders ++ l.last → l.self ≡ holders ++ drop l.edt-index l.last;
}
