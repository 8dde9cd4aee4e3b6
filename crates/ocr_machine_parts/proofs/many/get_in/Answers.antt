use Rattle.ocr_machine_parts.proofs.Lists.{got}
use Rattle.ocr_machine_parts.proofs.many.get_in.Goals as goal

pub returns-clause-some : goal.returns-clause-some
returns-clause-some c = (got c.peek.result c.block.inside.0 c.args.block c.args.cache.now.entries c.peek.ensures c.block.view_is).0

pub returns-clause-none : goal.returns-clause-none
returns-clause-none c = (got c.peek.result c.block.inside.0 c.args.block c.args.cache.now.entries c.peek.ensures c.block.view_is).1
