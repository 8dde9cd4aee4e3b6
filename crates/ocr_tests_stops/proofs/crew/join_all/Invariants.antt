use Rattle.std.proofs.Common.{◌≡◌, ◌+◌, All, length}
use Rattle.std.specs.Vec.Iter.{into_iter_items, into_iter_len}
use Rattle.ocr_tests_stops.specs.Clerks.{IsOut}
use Rattle.ocr_tests_stops.specs.Seats.{IsRoot}
use Rattle.ocr_tests_stops.proofs.crew.join_all.Given as goal

abbrev pub invariant-loop-back : goal.invariant-loop-back
invariant-loop-back l = record {
  root : IsRoot l.turns (1 + into_iter_len l.back-iterator) l.root;
  left : into_iter_len l.back-iterator ≡ length (into_iter_items l.back-iterator);
  out : All (λ back. IsOut l.turns back.clerk) (into_iter_items l.back-iterator);
}
