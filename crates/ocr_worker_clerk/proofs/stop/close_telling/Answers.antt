use Rattle.ocr_worker_clerk.proofs.Ends.{may_close}
use Rattle.ocr_worker_clerk.proofs.Goes.{close_left, close_made, close_stays}
use Rattle.ocr_worker_clerk.proofs.stop.close_telling.Goals as goal

pub close-requires-clause-may : goal.close-requires-clause-may
close-requires-clause-may g c = λ _. may_close c.args.job.now.turns.now c.args.job.now.program.now c.args.clerk.now c.args.why c.args.learns.now c.requires.work c.requires.may c.requires.stand

pub returns-in-At-clause-stays : goal.returns-in-At-clause-stays
returns-in-At-clause-stays g c = close_stays c.args.job.now.turns.now c.args.job.now.program.now c.args.why c.args.learns.now c.close.result c.args.clerk.now c.close.new.clerk c.requires.work c.close.ensures

pub returns-in-At-clause-gone : goal.returns-in-At-clause-gone
returns-in-At-clause-gone g c = close_left c.args.job.now.turns.now c.args.job.now.program.now c.args.worker c.args.why c.args.learns.now c.close.result c.args.clerk.now c.close.new.clerk c.requires.work c.requires.own c.close.ensures

pub returns-in-Closed-clause-stays : goal.returns-in-Closed-clause-stays
returns-in-Closed-clause-stays g c = close_stays c.args.job.now.turns.now c.args.job.now.program.now c.args.why c.args.learns.now c.close.result c.args.clerk.now c.close.new.clerk c.requires.work c.close.ensures

pub returns-in-Closed-clause-gone : goal.returns-in-Closed-clause-gone
returns-in-Closed-clause-gone g c = close_left c.args.job.now.turns.now c.args.job.now.program.now c.args.worker c.args.why c.args.learns.now c.close.result c.args.clerk.now c.close.new.clerk c.requires.work c.requires.own c.close.ensures

pub returns-in-At-clause-made : goal.returns-in-At-clause-made
returns-in-At-clause-made g c = close_made c.args.job.now.turns.now c.args.job.now.program.now c.args.why c.args.learns.now c.close.result c.args.clerk.now c.close.new.clerk c.requires.work c.close.ensures

pub returns-in-Closed-clause-made : goal.returns-in-Closed-clause-made
returns-in-Closed-clause-made g c = close_made c.args.job.now.turns.now c.args.job.now.program.now c.args.why c.args.learns.now c.close.result c.args.clerk.now c.close.new.clerk c.requires.work c.close.ensures
