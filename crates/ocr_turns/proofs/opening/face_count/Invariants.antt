use Rattle.std.specs.Prelude.{◌≡◌, ◌≤◌, take}
use Rattle.ocr_turns_rule.specs.Contract.{faces}
use Rattle.ocr_turns.proofs.opening.face_count.Given as goal

abbrev pub invariant-loop-i : goal.invariant-loop-i
invariant-loop-i g l = (l.count ≡ faces l.limit (take l.i l.opening)) × (l.count ≤ l.i)
