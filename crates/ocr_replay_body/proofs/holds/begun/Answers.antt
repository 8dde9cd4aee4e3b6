use Rattle.std.proofs.Common.{◌∙◌}
use Rattle.ocr_replay_body.proofs.Begun.{running_holds}
use Rattle.ocr_replay_body.proofs.holds.begun.Goals as goal

pub returns-in_ok-begun_all-in-Running : goal.returns-in_ok-begun_all-in-Running
returns-in_ok-begun_all-in-Running c = c.in_ok-begun_all-in-Running.ensures ∙ running_holds c.args.core.now c.in-Running.running c.in-Running.is
