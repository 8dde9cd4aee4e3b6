use Rattle.std.proofs.Common.{◌≡◌, ◌+◌, length}
use Rattle.std.specs.Vec.Iter.{into_iter_items, into_iter_len}
use Rattle.ocr_steal.specs.Pool.{hands_in}
use Rattle.ocr_run_crew.specs.Seats.{AreBack, IsGathering}
use Rattle.ocr_run_crew.proofs.logs.join_all.Given as goal

abbrev pub invariant-loop-back : goal.invariant-loop-back
invariant-loop-back g l = record {
  root : IsGathering l.job.turns.now (hands_in l.job.pool.now) (into_iter_len l.back-iterator) (length l.yielded) l.root;
  long : into_iter_len l.back-iterator ≡ length (into_iter_items l.back-iterator);
  many : length l.yielded + into_iter_len l.back-iterator ≡ hands_in l.job.pool.now;
  rest : AreBack l.job.turns.now (hands_in l.job.pool.now) (into_iter_items l.back-iterator);
}
