use Rattle.std.proofs.Common.{◌≡◌, ◌≤◌, vec_len, vec_capacity, take, length}
use Rattle.ocr_turns_rule.specs.Contract.{SameRoom}
use Rattle.ocr_worker_clerk.specs.Work.{in_hand}
use Rattle.ocr_worker_clerk.proofs.Hands.{some_from}
use Rattle.ocr_worker_clerk.proofs.lift.lift_parts.Given as goal

abbrev pub invariant-loop-place : goal.invariant-loop-place
invariant-loop-place l = record {
  table : l.clerk.table ≡ l.fn.clerk.table;
  view : l.clerk.view ≡ l.fn.clerk.view;
  same : SameRoom l.fn.clerk l.clerk;
  hand : l.clerk.parts ≡ some_from l.place-index (in_hand l.fn.clerk.parts);
  parts : l.parts.items ≡ take l.place-index (in_hand l.fn.clerk.parts);
  room : length l.places ≤ vec_capacity l.parts;
  len : vec_len l.parts ≡ l.place-index;
}
