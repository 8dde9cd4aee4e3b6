use Rattle.std.proofs.Common.{◌≡◌, ℕ, ◌<◌, ◌≤◌, false, get_or}
use Rattle.std.specs.Slots.{slots_filled, slots_len}
use Rattle.std.specs.Slots.Ownership.{Filled}
use Rattle.ocr_turns.proofs.closing.free_slots.Given as goal

abbrev pub invariant-loop-i : goal.invariant-loop-i
invariant-loop-i g l = record {
  within : l.i ≤ slots_len l.closed.slots;
  filled : Filled (slots_filled l.closed.slots) 0 l.i;
  emptied : (k : ℕ) → l.i ≤ k → k < slots_len l.closed.slots → get_or (slots_filled l.closed.slots) k false ≡ false;
}

abbrev pub decreases-loop-i : goal.decreases-loop-i
decreases-loop-i g l = l.i
