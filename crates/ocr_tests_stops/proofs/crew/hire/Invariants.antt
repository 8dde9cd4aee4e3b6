use Rattle.std.proofs.Common.{◌≡◌, ◌+◌, ◌≤◌, All, length, vec_len}
use Rattle.std.specs.Vec.Iter.{into_iter_items, into_iter_len}
use Rattle.ocr_steal.specs.Pool.{IsOfPool}
use Rattle.ocr_tests_stops.specs.Clerks.{program_of}
use Rattle.ocr_tests_stops.specs.Seats.{HasUnit, IsRoot, IsSeated}
use Rattle.ocr_tests_stops.proofs.crew.hire.Given as goal

abbrev pub invariant-loop-hand : goal.invariant-loop-hand
invariant-loop-hand l = record {
  root : IsRoot l.turns (1 + vec_len l.seats) l.root;
  unit : HasUnit 1 l.root;
  quota : into_iter_len l.hand-iterator ≤ l.root.view.quota;
  left : into_iter_len l.hand-iterator ≡ length (into_iter_items l.hand-iterator);
  hands : All (IsOfPool l.pool) (into_iter_items l.hand-iterator);
  seats : All (IsSeated l.turns (program_of l.turns) l.pool) l.seats.items;
}
