use Rattle.ocr_replay.proofs.Some.{events_by}
use Rattle.ocr_replay.proofs.stops.weighed.Goals as goal

pub returns : goal.returns
returns c = λ s past front worker. events_by s past c.args.mail.now c.args.table.now c.args.verdicts.now c.args.weight worker c.in_ok-comes.comes c.is_one-one.result c.mail_delivers-some.result c.both-delivers.result c.either.result
    front (c.in_ok-comes.ensures s past c.args.mail.now front (c.room-left.ensures s past front.of)) c.is_one-one.ensures c.mail_delivers-some.ensures c.both-delivers.ensures c.either.ensures
