use Rattle.std.proofs.Common.{arith}
use Rattle.ocr_replay.specs.Stops.{CouldWeigh}
use Rattle.ocr_replay.proofs.Some.{come_at, one_less, some_come}
use Rattle.ocr_replay.proofs.stops.some_could.Goals as goal

pub returns-then-here : goal.returns-then-here
returns-then-here c = λ s past rows front roomy. come_at s past c.loop-n.n c.args.weight c.in_ok-here.here (c.in_ok-here.ensures s past rows front roomy) c.if-here.true

pub loop-n-preserved : goal.loop-n-preserved
loop-n-preserved c = λ s past rows front roomy. one_less c.loop-n.n c.args.table.now.limit (λ t. CouldWeigh s past t c.args.weight) (c.loop-n.invariant s past rows front roomy) (λ p. (c.in_ok-here.ensures s past rows front roomy).no c.if-here.false p)

pub returns : goal.returns
returns c = λ s past rows front roomy. some_come s past rows c.args.table.now c.args.verdicts.now c.args.weight c.in_ok-last.last front
    (λ t pos le p. c.loop-n.invariant s past rows front roomy t (omega (arith, c.loop-n-test.false)) le p) (c.in_ok-last.ensures s past rows front roomy)
