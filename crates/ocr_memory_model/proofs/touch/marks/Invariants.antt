use Rattle.std.proofs.Common.{◌≤◌, take}
use Rattle.std.specs.BTreeMap.{btree_map_len}
use Rattle.ocr_machine_history.specs.History.{history_of}
use Rattle.ocr_memory_model.specs.Touches.{AreMarked}
use Rattle.ocr_memory_model.proofs.touch.marks.Given as goal

abbrev pub invariant-loop-place : goal.invariant-loop-place
invariant-loop-place l = record {
  marked : AreMarked (history_of (take l.place l.entries)) l.marks;
  few : btree_map_len l.marks ≤ l.place;
}
