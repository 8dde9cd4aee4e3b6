use Rattle.std.proofs.Common.{subst, sym, ◌∙◌}
use Rattle.ocr_worker.specs.Debts.{IsAtRest}
use Rattle.ocr_worker_clerk.proofs.Goes.{stays_both}
use Rattle.ocr_worker.proofs.Advances.{same_both}
use Rattle.ocr_worker.proofs.Searches.{Rests, rests_next}
use Rattle.ocr_worker.proofs.Advances.{goes_next}
use Rattle.ocr_worker.proofs.Still.{HasDrained, alone_stays, drained, on_ok, quiet_delivered}
use Rattle.ocr_worker.proofs.drained.drain_on.Goals as goal

pub returns-in_err-deliver_all-clause-rests : goal.returns-in_err-deliver_all-clause-rests
returns-in_err-deliver_all-clause-rests g c = λ rest.
    let table = c.args.job.now.turns.now in
    let still = subst (IsAtRest table) (sym (c.loop.invariant.3 rest)) rest in
    absurd (c.in_err-deliver_all.ensures.rests (quiet_delivered table c.args.job.now.program.now c.loop.clerk c.loop.invariant.2.between still)).0

pub loop-preserved-in_ok-advance_found-in-Some-take :
    goal.loop-preserved-in_ok-advance_found-in-Some-take
loop-preserved-in_ok-advance_found-in-Some-take g c =
    let table = c.args.job.now.turns.now in let program = c.args.job.now.program.now in
    let first = c.args.clerk.now in let start = c.deliver_all.new.clerk in let new = c.advance_found.new.clerk in
    let goes = c.loop.invariant.2 in
    let at_start : Rests table first start = rests_next table first c.loop.clerk start c.loop.invariant.3 (λ rest. (c.in_ok-deliver_all.ensures.rests (quiet_delivered table program c.loop.clerk goes.between rest)).1) in
    let hands = same_both c.loop.hand c.deliver_all.new.hand c.take.new.self c.deliver_all.ensures.hand.same c.take.ensures.same.0 in (
      tt,
      tt,
      goes_next table program first c.loop.clerk new c.args.hand.now c.loop.hand c.advance_found.new.hand goes c.in_ok-advance_found-in-Some-take.ensures.done
          (stays_both c.loop.clerk start new c.deliver_all.ensures.stays c.advance_found.ensures.stays)
          (same_both c.loop.hand c.take.new.self c.advance_found.new.hand hands c.advance_found.ensures.hand.same),
      rests_next table first start new at_start (λ rest. (c.in_ok-advance_found-in-Some-take.ensures.rests rest).1),
    )

pub returns-in_err-advance_found-in-Some-take-clause-rests :
    goal.returns-in_err-advance_found-in-Some-take-clause-rests
returns-in_err-advance_found-in-Some-take-clause-rests g c = λ rest.
    let table = c.args.job.now.turns.now in let first = c.args.clerk.now in let start = c.deliver_all.new.clerk in
    let at_start : Rests table first start = rests_next table first c.loop.clerk start c.loop.invariant.3 (λ rest. (c.in_ok-deliver_all.ensures.rests (quiet_delivered table c.args.job.now.program.now c.loop.clerk c.loop.invariant.2.between rest)).1) in
    absurd (c.in_err-advance_found-in-Some-take.ensures.rests (subst (IsAtRest table) (sym (at_start rest)) rest)).0

pub returns-in_err-advance_all-in-None-take-clause-rests :
    goal.returns-in_err-advance_all-in-None-take-clause-rests
returns-in_err-advance_all-in-None-take-clause-rests g c = λ rest.
    let table = c.args.job.now.turns.now in let first = c.args.clerk.now in let start = c.deliver_all.new.clerk in
    let at_start : Rests table first start = rests_next table first c.loop.clerk start c.loop.invariant.3 (λ rest. (c.in_ok-deliver_all.ensures.rests (quiet_delivered table c.args.job.now.program.now c.loop.clerk c.loop.invariant.2.between rest)).1) in
    absurd (c.in_err-advance_all-in-None-take.ensures.rests (subst (IsAtRest table) (sym (at_start rest)) rest)).0

pub returns-then-not-branch-clause-rests : goal.returns-then-not-branch-clause-rests
returns-then-not-branch-clause-rests g c = λ rest.
    let table = c.args.job.now.turns.now in let first = c.args.clerk.now in let start = c.deliver_all.new.clerk in
    let at_start : Rests table first start = rests_next table first c.loop.clerk start c.loop.invariant.3 (λ rest. (c.in_ok-deliver_all.ensures.rests (quiet_delivered table c.args.job.now.program.now c.loop.clerk c.loop.invariant.2.between rest)).1) in
    let at_end : Rests table first c.advance_all.new.clerk = rests_next table first start c.advance_all.new.clerk at_start (λ rest. (c.in_ok-advance_all-in-None-take.ensures.rests rest).1) in
    let same = at_end rest in
    let looked = c.look_on.ensures.rests (subst (IsAtRest table) (sym same) rest) in
    (looked.0, looked.1 ∙ same)

pub returns-then-not-branch-clause-idle : goal.returns-then-not-branch-clause-idle
returns-then-not-branch-clause-idle g c =
    let table = c.args.job.now.turns.now in let program = c.args.job.now.program.now in
    let first = c.args.clerk.now in let start = c.deliver_all.new.clerk in
    let goes = c.loop.invariant.2 in
    let done = c.in_ok-deliver_all.ensures.done in
    let stays = stays_both first c.loop.clerk start goes.stays c.deliver_all.ensures.stays in
    let none = c.in_ok-advance_all-in-None-take.ensures.none c.if-not-branch.true in
    on_ok c.look_on.result _ (HasDrained table program c.look_on.new.clerk)
    (drained table program start c.advance_all.new.clerk c.look_on.new.clerk done.0 (alone_stays first start stays c.requires.alone) done.1 none) c.look_on.ensures.goes_on

pub loop-preserved : goal.loop-preserved
loop-preserved g c =
    let table = c.args.job.now.turns.now in let program = c.args.job.now.program.now in
    let first = c.args.clerk.now in let start = c.deliver_all.new.clerk in let new = c.advance_all.new.clerk in
    let goes = c.loop.invariant.2 in
    let at_start : Rests table first start = rests_next table first c.loop.clerk start c.loop.invariant.3 (λ rest. (c.in_ok-deliver_all.ensures.rests (quiet_delivered table program c.loop.clerk goes.between rest)).1) in
    let hands = same_both c.loop.hand c.deliver_all.new.hand c.take.new.self c.deliver_all.ensures.hand.same c.take.ensures.same.0 in (
      tt,
      tt,
      goes_next table program first c.loop.clerk new c.args.hand.now c.loop.hand c.advance_all.new.hand goes c.in_ok-advance_all-in-None-take.ensures.done
          (stays_both c.loop.clerk start new c.deliver_all.ensures.stays c.advance_all.ensures.stays.0)
          (same_both c.loop.hand c.take.new.self c.advance_all.new.hand hands c.advance_all.ensures.stays.1),
      rests_next table first start new at_start (λ rest. (c.in_ok-advance_all-in-None-take.ensures.rests rest).1),
    )
