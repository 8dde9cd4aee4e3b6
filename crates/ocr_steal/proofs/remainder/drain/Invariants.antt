use Rattle.std.proofs.Common.{◌≡◌, ◌+◌, ◌-◌, ℕ, length}
use Rattle.std.specs.List.{sum_by}
use Rattle.crossbeam_deque.specs.Handles.{worker_view}
use Rattle.ocr_steal.specs.Rest.{IsLone, taken_weight}
use Rattle.ocr_steal.proofs.remainder.drain.Given as goal

abbrev pub invariant-loop-edt : goal.invariant-loop-edt
invariant-loop-edt l = record {
  lone : IsLone l.own;
  pushed : (worker_view l.own).pushed ≡ (worker_view l.initial.own).pushed;
  weights : (f : ℕ → ℕ) → sum_by f l.left.items + taken_weight f (worker_view l.initial.own) ≡ sum_by f l.initial.left.items + taken_weight f (worker_view l.own);
}

abbrev pub decreases-loop-edt : goal.decreases-loop-edt
decreases-loop-edt l = length (worker_view l.own).pushed - length (worker_view l.own).taken
