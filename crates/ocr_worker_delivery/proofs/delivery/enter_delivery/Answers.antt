use Rattle.ocr_worker_clerk.proofs.Units.{idle_duties}
use Rattle.ocr_worker_delivery.proofs.Owed.{can_deliver, idle_hand}
use Rattle.ocr_worker_delivery.proofs.delivery.enter_delivery.Goals as goal

pub enter_kept-requires : goal.enter_kept-requires
enter_kept-requires g c κs within = (
  within.0,
  (
    within.1,
    (
      c.requires.work,
      (
        idle_hand c.args.clerk.now c.requires.idle,
        (
          idle_duties c.args.clerk.now c.requires.idle,
          can_deliver c.args.job.now.turns.now c.args.job.now.program.now c.args.clerk.now c.args.message c.requires.work c.requires.idle c.requires.owed c.requires.sets,
        ),
      ),
    ),
  ),
)
