use Rattle.std.proofs.Common.{arith}
use Rattle.ocr_replay.specs.Stops.{Creates}
use Rattle.ocr_replay.proofs.Some.{created_at, one_less, some_created}
use Rattle.ocr_replay.proofs.stops.some_creates.Goals as goal

pub returns-then-creates : goal.returns-then-creates
returns-then-creates c = λ s past rows front. created_at s past c.loop-n.n c.creates.result (c.creates.ensures s past rows front) c.if-creates.true

pub loop-n-preserved : goal.loop-n-preserved
loop-n-preserved c = λ s past rows front. one_less c.loop-n.n c.args.table.now.limit (λ t. Creates s past t) (c.loop-n.invariant s past rows front) (λ p. (c.creates.ensures s past rows front).no c.if-creates.false p)

pub returns : goal.returns
returns c = λ s past rows front. some_created s past rows c.args.table.now c.args.verdicts.now c.creates-2.result front
    (λ t pos le p. c.loop-n.invariant s past rows front t (omega (arith, c.loop-n-test.false)) le p) (c.creates-2.ensures s past rows front)
