use Rattle.std.proofs.Common.{inr, subst}
use Rattle.ocr_worker.specs.Progress.{AdvanceTells}
use Rattle.ocr_worker_clerk.specs.Entry.{OcrKnown}
use Rattle.ocr_worker_clerk.specs.Push.{PushesReady}
use Rattle.ocr_steal.specs.declared.hand.Hand.{Hand}
use Rattle.ocr_worker.specs.Steal.{HasGot}
use Rattle.ocr_worker.proofs.rounds.round.Goals as goal

pub returns-clause-busy : goal.returns-clause-busy
returns-clause-busy g c = λ _.
    let table = c.args.job.now.turns.now in let program = c.args.job.now.program.now in
    let none = c.in_ok-deliver_all.ensures.none c.if-branch.false in
    let edt = c.in-Some.edt in let told = c.in_ok-advance_found.ensures in
    inr (record {
      edt = edt;
      between = c.find.new.hand;
      got = subst (λ (h : Hand). HasGot c.args.job.now.pool.now h c.find.new.hand edt) none.1 c.in-Some.ensures.some;
      advanced = λ number.
          let one = told.told number in
          (one.0, subst (λ (k : OcrKnown). AdvanceTells table program c.args.worker one.0 edt k c.advance_found.new.clerk) none.0 one.1);
      pushes = subst (λ (k : OcrKnown). PushesReady k c.advance_found.new.clerk c.find.new.hand c.advance_found.new.hand) none.0 told.pushed;
    })
