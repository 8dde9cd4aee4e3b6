use Rattle.std.proofs.Common.{◌≡◌, ◌≤◌, ◌*◌, ◌+◌, length, replicate, Some, ℕ}
use mathlib.Core.Option.{some}
use lib.ListN.{get_elem?}
use Rattle.std.specs.Vec.Iter.{into_iter_items, into_iter_len}
use Rattle.ocr_turns_rule.specs.Openings.{placed}
use Rattle.ocr_turns.proofs.opening.first_parts.Given as goal

abbrev pub invariant-loop-place : goal.invariant-loop-place
invariant-loop-place g l = record {
  rest : placed (into_iter_items l.place-iterator) l.parts.items ≡ placed l.fn.opening.items (replicate (2 * l.limit + 1) (Some g.M.Machine.meaning.vacant));
  within : (k p : ℕ) (x : g.row.M-Part.Denot) → get_elem? (into_iter_items l.place-iterator) k ≡ some (p, x) → p ≤ 2 * l.limit;
  size : length l.parts.items ≡ 2 * l.limit + 1;
  left : into_iter_len l.place-iterator ≡ length (into_iter_items l.place-iterator);
}
