use Rattle.ocr_replay_body.proofs.Steps.{end_is}
use Rattle.ocr_replay_body.proofs.judge.makes.Goals as goal

pub returns-in-End : goal.returns-in-End
returns-in-End c = end_is c.is_same_guid.result c.args.ending.now c.in-Ended.guid c.in-End.returned c.in-End.edt c.args.entry.now c.args.holding.now c.in-Ended.is c.in-End.is c.is_same_guid.ensures
