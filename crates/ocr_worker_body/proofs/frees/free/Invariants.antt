use Rattle.std.proofs.Common.{[]}
use Rattle.ocr_worker_clerk.specs.Work.{in_hand}
use Rattle.ocr_worker_body.proofs.frees.free.Given as goal

abbrev pub ghost-enter_kept : goal.ghost-enter_kept
ghost-enter_kept g a = record { members = []; parts = in_hand a.clerk.now.parts }

abbrev pub ghost-conclude : goal.ghost-conclude
ghost-conclude g a = (g.b, (a.others.now, a.resumed.now))
