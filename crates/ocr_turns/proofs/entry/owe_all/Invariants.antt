use Rattle.std.proofs.Common.{◌≡◌, ◌≤◌, ◌<◌, ◌+◌, ◌++◌, length}
use Rattle.std.specs.Vec.Iter.{into_iter_items, into_iter_len}
use Rattle.ocr_base.specs.Mail.{named}
use Rattle.ocr_turns.proofs.entry.owe_all.Given as goal

abbrev pub invariant-loop-message : goal.invariant-loop-message
invariant-loop-message g l = record {
  rest : l.owed.items ++ named l.number l.index (into_iter_items l.message-iterator) ≡ l.fn.owed.items ++ named l.number 0 l.fn.messages.items;
  few : l.index + length (into_iter_items l.message-iterator) < 4294967296;
  room : length (into_iter_items l.message-iterator) ≤ l.owed.room;
  left : into_iter_len l.message-iterator ≡ length (into_iter_items l.message-iterator);
}
