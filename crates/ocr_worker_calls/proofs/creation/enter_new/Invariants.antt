use Rattle.std.proofs.Common.{[]}
use Rattle.ocr_worker_clerk.specs.Work.{in_hand}
use Rattle.ocr_worker_calls.proofs.creation.enter_new.Given as goal

abbrev pub ghost-enter_at_hand : goal.ghost-enter_at_hand
ghost-enter_at_hand g a = record { members = []; parts = in_hand g.s.1.1.parts }

abbrev pub ghost-conclude : goal.ghost-conclude
ghost-conclude g a = (g.s.0, (a.others.now, a.resumed.now))
