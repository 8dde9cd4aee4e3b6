use Rattle.ocr_replay_body.proofs.Steps.{ended_told}
use Rattle.ocr_replay_body.proofs.judge.told_of.Goals as goal

pub returns-in_ok-counts-in-Ended : goal.returns-in_ok-counts-in-Ended
returns-in_ok-counts-in-Ended c = ended_told c.args.ending.now c.in-Ended.field-0 c.args.holding.now c.in_ok-counts-in-Ended.field-0.items c.in-Ended.is c.in_ok-counts-in-Ended.ensures
