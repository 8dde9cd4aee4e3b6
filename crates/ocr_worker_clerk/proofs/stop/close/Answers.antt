use Rattle.ocr_worker_clerk.proofs.Ends.{no_facts}
use Rattle.ocr_worker_clerk.proofs.Goes.{own_plain}
use Rattle.ocr_worker_clerk.proofs.stop.close.Goals as goal

pub close_telling-requires-clause-stand : goal.close_telling-requires-clause-stand
close_telling-requires-clause-stand g c = no_facts c.args.job.now.turns.now.1 c.args.clerk.now.view c.args.why

pub close_telling-requires-clause-own : goal.close_telling-requires-clause-own
close_telling-requires-clause-own g c = own_plain c.args.job.now.turns.now.1 c.args.worker c.args.clerk.now.view c.args.why c.requires.own
