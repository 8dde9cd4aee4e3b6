use Rattle.std.proofs.Common.{subst, sym}
use Rattle.ocr_worker_clerk.specs.Entry.{OcrKnown}
use Rattle.ocr_worker_clerk.specs.Work.{IsAway, Stays}
use Rattle.ocr_worker.specs.Leave.{WorkLeaves}
use Rattle.ocr_worker.specs.declared.leave.Leave.{Leave}
use Rattle.ocr_worker_clerk.proofs.Goes.{stays_both}
use Rattle.ocr_worker.proofs.Idle.{rested_left}
use Rattle.ocr_worker.proofs.rounds.work.Goals.{in-Ok, in-Err}
use Rattle.ocr_worker.proofs.rounds.work.Goals as goal

pub returns-clause-stays : goal.returns-clause-stays
returns-clause-stays g c =
    let stays = c.work_on.ensures.stays in (
      elim c.match-work_on.branch [
        | in-Ok w ↦ subst (Stays c.args.clerk) (sym w.clerk-is) stays.0
        | in-Err w ↦ subst (Stays c.args.clerk) (sym w.clerk-is) (stays_both c.args.clerk c.work_on.new.clerk w.closing_word.new.clerk stays.0 w.closing_word.ensures.stays)
      ],
      stays.1,
    )

pub returns-clause-leaves : goal.returns-clause-leaves
returns-clause-leaves g c =
    let table = c.args.job.now.turns.now in let program = c.args.job.now.program.now in
    elim c.match-work_on.branch [
      | in-Ok w ↦
          subst (λ (k : OcrKnown). WorkLeaves table program c.args.worker c.match-work_on.leave k) (sym w.clerk-is)
          (subst (λ (l : Leave). WorkLeaves table program c.args.worker l c.work_on.new.clerk) (sym w.leave-is) w.in-Ok.ensures.quiet)
      | in-Err w ↦
          subst (λ (k : OcrKnown). WorkLeaves table program c.args.worker c.match-work_on.leave k) (sym w.clerk-is)
          (subst (λ (l : Leave). WorkLeaves table program c.args.worker l w.closing_word.new.clerk) (sym w.leave-is) (record {
            past = w.closing_word.ensures.closed.0;
            read = w.closing_word.ensures.closed.1;
            left = w.closing_word.ensures.left c.args.worker w.in-Err.ensures.left.0;
          }))
    ]

pub returns-clause-own : goal.returns-clause-own
returns-clause-own g c =
    let table = c.args.job.now.turns.now in let program = c.args.job.now.program.now in
    elim c.match-work_on.branch [
      | in-Ok w ↦ subst (IsAway table c.args.worker) (sym w.clerk-is) (rested_left table program c.args.worker c.work_on.new.clerk w.in-Ok.ensures.quiet.given.between.rests)
      | in-Err w ↦ subst (IsAway table c.args.worker) (sym w.clerk-is) (w.closing_word.ensures.left c.args.worker w.in-Err.ensures.left.0)
    ]
