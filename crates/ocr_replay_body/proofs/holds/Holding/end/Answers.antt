use Rattle.std.proofs.Common.{None}
use Rattle.ocr_replay_body.proofs.Held.{updated_holds}
use Rattle.ocr_replay_body.proofs.holds.Holding.end.Goals as goal

pub returns : goal.returns
returns c = rw (← c.self.view_is, ← c.block.view_is)
    (updated_holds c.block.inside.0 None c.self.inside.items.entries c.remove-held.new.self.entries c.remove-held.ensures.updates.0)
