use Rattle.std.proofs.Common.{take}
use Rattle.ocr_machine_history.specs.History.{history_of}
use Rattle.ocr_replay.proofs.Plays.{said_call, said_free, said_end, said_delivery}
use Rattle.ocr_replay.proofs.state.Replay.is_said.Goals as goal

pub returns-in-Call : goal.returns-in-Call
returns-in-Call c = λ s xs next. rw c.in-Call.is (said_call c.standing_laws.ensures.told s xs c.args.place c.in-Call.edt c.in-Call.home c.in-Call.call c.in-Call.answer c.in-Call.writes c.args.self.now c.agrees.result c.agrees.ensures (rw c.in-Call.is at next))

pub returns-in-Free : goal.returns-in-Free
returns-in-Free c = λ s xs next. rw c.in-Free.is (said_free c.standing_laws.ensures.told s xs c.args.place c.in-Free.edt c.in-Free.block c.in-Free.writes c.args.self.now _ c.agrees-in-Free.ensures (rw c.in-Free.is at next))

pub returns-in-End : goal.returns-in-End
returns-in-End c = λ s xs next. rw c.in-End.is (said_end c.standing_laws.ensures.told s xs c.args.place c.in-End.edt c.in-End.returned c.args.self.now _ c.agrees-in-End.ensures (rw c.in-End.is at next))

pub returns-in-Deliver : goal.returns-in-Deliver
returns-in-Deliver c = λ s xs next. rw c.in-Deliver.is (said_delivery s (history_of (take c.args.place xs)) c.args.self.now.mail _ c.has.result next.so_far.left c.has.ensures)
