use Rattle.std.proofs.Common.{◌≡◌, ◌≤◌, ℕ, List, [], None, drop}
use Rattle.ocr_slots.specs.Slots.{SlotCall, state_of, mode_of}
use Rattle.ocr_machine_parts.specs.Calls.{dep_links}
use Rattle.ocr_machine.proofs.creation.link_all.Given as goal

abbrev pub invariant-loop-k : goal.invariant-loop-k
invariant-loop-k l = (calls : List SlotCall) × (l.slots ≡ state_of l.count calls) × (dep_links l.k (drop l.k l.deps) calls ≡ dep_links 0 l.deps []) × ((j : ℕ) → l.k ≤ j → mode_of calls j ≡ None)
