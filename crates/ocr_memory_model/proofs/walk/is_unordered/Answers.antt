use Rattle.std.proofs.Common.{arith}
use Rattle.ocr_memory_model.proofs.Racers.{before_told, one_test, back_test}
use Rattle.ocr_memory_model.proofs.walk.is_unordered.Goals as goal

pub returns-then-a-b : goal.returns-then-a-b
returns-then-a-b c = λ s J order.
    one_test s J c.args.a c.args.b c.before-then-a-b.result (omega (arith, c.if-a-b.true))
    (before_told s J c.args.a c.args.b c.before-then-a-b.result order.run (c.before-then-a-b.ensures s J order))

pub returns-else-a-b : goal.returns-else-a-b
returns-else-a-b c = λ s J order.
    back_test s J c.args.a c.args.b c.before-else-a-b.result c.if-a-b.false
    (before_told s J c.args.b c.args.a c.before-else-a-b.result order.run (c.before-else-a-b.ensures s J order))
