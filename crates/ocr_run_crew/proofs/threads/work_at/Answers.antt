use Rattle.std.proofs.Common.{subst, sym}
use Rattle.crossbeam_utils.specs.Padded.{padded_value}
use Rattle.ocr_steal.specs.Pool.{hands_in}
use Rattle.ocr_worker.specs.declared.leave.Worked.{Worked}
use Rattle.ocr_run_crew.specs.Seats.{IsHome}
use Rattle.ocr_run_crew.proofs.Seated.{back_from}
use Rattle.ocr_run_crew.proofs.threads.work_at.Goals as goal

pub returns : goal.returns
returns g c =
    let job = c.args.job.now in let seat = padded_value c.args.seat in let left = c.work.ensures in
    subst (λ (w : Worked). IsHome job.turns.now (hands_in job.pool.now) w.clerk) (sym c.new.ensures)
    (back_from job.turns.now job.program.now (hands_in job.pool.now) seat c.into_inner-worker.result c.work.result c.into_inner-worker.ensures c.requires.hired c.requires.worker left.stays.0 left.own left.leaves)
