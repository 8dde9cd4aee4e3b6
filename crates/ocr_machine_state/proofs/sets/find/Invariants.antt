use Rattle.std.proofs.Common.{◌≡◌, drop}
use Rattle.ocr_slots.specs.Slots.{payload_of}
use Rattle.ocr_machine_state.specs.Sets.{settings}
use Rattle.ocr_machine_state.proofs.sets.find.Given as goal

abbrev pub invariant-loop-i : goal.invariant-loop-i
invariant-loop-i l = payload_of (settings (drop l.i l.items)) l.slot ≡ payload_of (settings l.items) l.slot
