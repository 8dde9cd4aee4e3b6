use Rattle.std.proofs.Common.{Some}
use Rattle.ocr_replay_body.proofs.Held.{updated_holds}
use Rattle.ocr_replay_body.proofs.holds.begin.Goals as goal

pub returns : goal.returns
returns c = rw (← c.block.view_is, c.in-Some.is)
    (updated_holds c.block.inside.0 (Some c.in-Some.held) c.args.items.now.entries c.insert.new.self.entries c.in_ok-insert.ensures.updates.0)
