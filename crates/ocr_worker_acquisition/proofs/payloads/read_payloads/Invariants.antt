use Rattle.std.proofs.Common.{◌≡◌, ◌≤◌, length}
use Rattle.ocr_worker_machine.specs.Ocr.{meaning}
use Rattle.ocr_turns_rule.specs.Contract.{SameHand}
use Rattle.ocr_turns_rule.specs.Steps.{Sees}
use Rattle.ocr_worker_clerk.specs.Work.{KnowsPayloads}
use Rattle.ocr_worker_acquisition.specs.Acquisition.{Learns}
use Rattle.ocr_worker_acquisition.proofs.payloads.read_payloads.Given as goal

abbrev pub invariant-loop-slot : goal.invariant-loop-slot
invariant-loop-slot l = record {
  hand : SameHand l.fn.clerk l.clerk;
  learns : Learns l.fn.clerk.view l.clerk.view;
  sees : Sees meaning l.clerk.view;
  room : l.count ≤ l.payloads.capacity;
  many : length l.payloads.items ≡ l.slot;
  known : KnowsPayloads l.clerk.view l.edt l.payloads.items;
}
