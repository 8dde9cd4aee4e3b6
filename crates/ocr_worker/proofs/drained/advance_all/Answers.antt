use Rattle.std.proofs.Common.{◌+◌, subst, sym, arith}
use Rattle.ocr_worker.specs.Debts.{IsAtRest}
use Rattle.ocr_worker.proofs.Advances.{came_between, goes_next}
use Rattle.ocr_worker.proofs.Searches.{passed, passing_lost, passing_won, rests_next}
use Rattle.ocr_worker.proofs.Unchanged.{quiet_lost}
use Rattle.ocr_worker.proofs.drained.advance_all.Goals.{in-Lost, in_default}
use Rattle.ocr_worker.proofs.drained.advance_all.Goals as goal

pub loop-number-preserved : goal.loop-number-preserved
loop-number-preserved g c =
    let table = c.args.job.now.turns.now in let program = c.args.job.now.program.now in
    let goes = c.loop-number.invariant.0 in let was = c.loop-number.invariant.1 in let rests = c.loop-number.invariant.2 in
    let end = c.limit-number-end.ensures in let test = c.loop-number-test.true in
    let still = rests_next table c.args.clerk.now c.loop-number.clerk c.advance.new.clerk rests (λ rest. (quiet_lost table program c.args.worker (c.loop-number.number + 1) c.advance.result c.loop-number.clerk c.advance.new.clerk goes.between rest c.advance.ensures.told).2) in
    elim c.match-advance.branch [
      | in-Lost w ↦
          let told = w.in-Lost.ensures.told in
          let between = came_between table program c.args.worker (c.loop-number.number + 1) c.advance.result c.loop-number.clerk c.advance.new.clerk (λ word is. cc (is, w.in-Lost.is)) goes.between c.advance.ensures.told in (
            goes_next table program c.args.clerk.now c.loop-number.clerk c.advance.new.clerk c.args.hand.now c.loop-number.hand c.advance.new.hand goes between c.advance.ensures.stays c.advance.ensures.hand.same,
            passing_lost table.1.limit c.loop-number.number w.in-Lost.field-0 c.loop-number.any c.match-advance.any c.args.clerk.now c.loop-number.clerk c.advance.new.clerk (omega (arith, end, test)) w.any-is told.0 told.1 told.2 was,
            still,
          )
      | in_default w ↦
          let between = came_between table program c.args.worker (c.loop-number.number + 1) c.advance.result c.loop-number.clerk c.advance.new.clerk w.in_default.not-Closed goes.between c.advance.ensures.told in (
            goes_next table program c.args.clerk.now c.loop-number.clerk c.advance.new.clerk c.args.hand.now c.loop-number.hand c.advance.new.hand goes between c.advance.ensures.stays c.advance.ensures.hand.same,
            passing_won table.1.limit c.loop-number.number c.match-advance.any c.args.clerk.now c.advance.new.clerk (omega (arith, end, test)) w.any-is,
            still,
          )
    ]

pub returns-clause-none : goal.returns-clause-none
returns-clause-none g c =
    let end = c.limit-number-end.ensures in let test = c.loop-number-test.false in
    passed c.args.job.now.turns.now.1.limit c.loop-number.number c.loop-number.any c.args.clerk.now c.loop-number.clerk (omega (arith, end, test)) c.loop-number.invariant.1

pub returns-in-Closed-clause-rests : goal.returns-in-Closed-clause-rests
returns-in-Closed-clause-rests g c = λ rest.
    let table = c.args.job.now.turns.now in
    let still = subst (IsAtRest table) (sym (c.loop-number.invariant.2 rest)) rest in
    let lost = quiet_lost table c.args.job.now.program.now c.args.worker (c.loop-number.number + 1) c.advance.result c.loop-number.clerk c.advance.new.clerk c.loop-number.invariant.0.between still c.advance.ensures.told in
    let one = lost.1 in let other = c.in-Closed.is in absurd (cc (one, other))
