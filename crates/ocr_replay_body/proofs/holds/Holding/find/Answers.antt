use Rattle.ocr_replay_body.proofs.Held.{found_hold}
use Rattle.ocr_replay_body.proofs.holds.Holding.find.Goals as goal

pub returns-clause-some : goal.returns-clause-some
returns-clause-some c = rw (← c.self.view_is, ← c.block.view_is) (found_hold c.get.result c.block.inside.0 c.self.inside.items.entries c.get.ensures.value).0

pub returns-clause-none : goal.returns-clause-none
returns-clause-none c = rw (← c.self.view_is, ← c.block.view_is) (found_hold c.get.result c.block.inside.0 c.self.inside.items.entries c.get.ensures.value).1
