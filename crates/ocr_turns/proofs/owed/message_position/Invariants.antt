use Rattle.std.proofs.Common.{◌≡◌, ◌≤◌, ◌<◌, ◌-◌, length, false, ℕ}
use mathlib.Core.Option.{some}
use lib.ListN.{get_elem?}
use Rattle.ocr_base.specs.Mail.{same_name}
use Rattle.ocr_turns.proofs.owed.message_position.Given as goal

abbrev pub invariant-loop-i : goal.invariant-loop-i
invariant-loop-i g l = record {
  index : ℕ;
  item : g.row.N.Denot;
  there : get_elem? l.rest.items index ≡ some (l.number, l.index, item);
  within : index < length l.rest.items;
  before : l.i ≤ index;
  first : (k : ℕ) (x : ℕ × ℕ × g.row.N.Denot) → k < l.i → get_elem? l.rest.items k ≡ some x → same_name (l.number, l.index) x ≡ false;
}

abbrev pub decreases-loop-i : goal.decreases-loop-i
decreases-loop-i g l = length l.rest.items - l.i
