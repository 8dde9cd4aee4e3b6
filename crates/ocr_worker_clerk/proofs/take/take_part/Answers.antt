use Rattle.std.proofs.Common.{arith}
use Rattle.ocr_worker_clerk.proofs.Goes.{closed_left, closed_stays}
use Rattle.ocr_worker_clerk.proofs.Hands.{took_one, took_stays, took_work}
use Rattle.ocr_worker_clerk.proofs.take.take_part.Goals as goal

pub take-requires-clause-place : goal.take-requires-clause-place
take-requires-clause-place g c = let p = c.requires.place in omega (arith, p)

pub take-requires-clause-room : goal.take-requires-clause-room
take-requires-clause-room g c = let s = c.requires.work.spare in let r = c.requires.room in omega (arith, s, r)

pub returns-in-Mine-clause-stays : goal.returns-in-Mine-clause-stays
returns-in-Mine-clause-stays g c = took_stays c.args.clerk.now c.take.new.clerk c.args.place c.in-Mine.ensures

pub returns-in-Mine-clause-work : goal.returns-in-Mine-clause-work
returns-in-Mine-clause-work g c = took_work c.args.job.now.turns.now c.args.job.now.program.now c.args.clerk.now c.take.new.clerk c.args.place c.requires.work c.in-Mine.ensures

pub returns-in-Mine-clause-took : goal.returns-in-Mine-clause-took
returns-in-Mine-clause-took g c = took_one c.args.clerk.now c.take.new.clerk c.args.place c.in-Mine.ensures

pub returns-in-Closed-clause-stays : goal.returns-in-Closed-clause-stays
returns-in-Closed-clause-stays g c = closed_stays c.args.job.now.turns.now c.args.job.now.program.now c.in-Closed.word c.args.clerk.now c.take.new.clerk c.requires.work c.in-Closed.ensures

pub returns-in-Closed-clause-gone : goal.returns-in-Closed-clause-gone
returns-in-Closed-clause-gone g c = closed_left c.args.job.now.turns.now c.args.job.now.program.now c.args.worker c.in-Closed.word c.args.clerk.now c.take.new.clerk c.requires.work c.in-Closed.ensures
