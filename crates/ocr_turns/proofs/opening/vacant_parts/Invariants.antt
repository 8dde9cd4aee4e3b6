use Rattle.std.proofs.Common.{◌≡◌, ◌≤◌, ◌-◌, replicate, vec_capacity, length, Some}
use Rattle.ocr_turns.proofs.opening.vacant_parts.Given as goal

abbrev pub invariant-loop-parts : goal.invariant-loop-parts
invariant-loop-parts g l = record {
  parts : l.parts.items ≡ replicate (length l.parts.items) (Some g.M.Machine.meaning.vacant);
  few : length l.parts.items ≤ l.count;
  room : l.count ≤ vec_capacity l.parts;
}

abbrev pub decreases-loop-parts : goal.decreases-loop-parts
decreases-loop-parts g l = l.count - length l.parts.items
