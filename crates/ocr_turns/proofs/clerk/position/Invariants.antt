use Rattle.std.proofs.Common.{◌≤◌, ◌-◌, length, Option}
use Rattle.ocr_turns_rule.proofs.Numbered.{FirstAt}
use Rattle.ocr_turns.proofs.clerk.position.Given as goal

abbrev pub invariant-loop-i : goal.invariant-loop-i
invariant-loop-i g l = (item : Option g.row.P.Denot) × (f : FirstAt l.place l.parts item) × (l.i ≤ f.index)

abbrev pub decreases-loop-i : goal.decreases-loop-i
decreases-loop-i g l = length l.parts - l.i
