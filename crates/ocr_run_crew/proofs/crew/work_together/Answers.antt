use Rattle.std.proofs.Common.{ℕ, subst, sym}
use Rattle.ocr_steal.specs.Pool.{hands_in}
use Rattle.ocr_run_crew.specs.Seats.{IsGathering}
use Rattle.ocr_run_crew.proofs.crew.work_together.Goals as goal

pub join_all-requires-clause-root : goal.join_all-requires-clause-root
join_all-requires-clause-root g c =
    let workers = hands_in c.in_ok-pool.pool in
    subst (λ (n : ℕ). IsGathering c.args.turns.now workers n 0 c.hire.new.root) (sym c.in_ok-backs.ensures.many) (c.in_ok-seats.ensures.root workers)
