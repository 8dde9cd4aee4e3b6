use Rattle.std.proofs.Common.{◌≡◌, ◌+◌, ◌≤◌, length, vec_len}
use Rattle.std.specs.Vec.Iter.{into_iter_items, into_iter_len}
use Rattle.ocr_run_crew.specs.Seats.{AreSeats, IsHiring}
use Rattle.ocr_run_crew.proofs.Seated.{AreUnused}
use Rattle.ocr_run_crew.proofs.seats.hire.Given as goal

abbrev pub invariant-loop-hand : goal.invariant-loop-hand
invariant-loop-hand g l = record {
  root : IsHiring l.job.turns.now l.job.program.now (vec_len l.seats) l.root;
  quota : into_iter_len l.hand-iterator ≤ l.root.view.quota;
  long : into_iter_len l.hand-iterator ≡ length (into_iter_items l.hand-iterator);
  many : vec_len l.seats + into_iter_len l.hand-iterator ≡ vec_len l.fn.hands;
  rest : AreUnused l.job.pool.now (vec_len l.seats) (into_iter_items l.hand-iterator);
  seats : AreSeats l.job.turns.now l.job.program.now l.job.pool.now l.seats.items;
}
