use Rattle.ocr_worker_machine.proofs.Owed.{hand_member, knows_member, leave_law}
use Rattle.ocr_worker_machine.proofs.laws.leaving_laws.Goals as goal

pub returns-clause-member : goal.returns-clause-member
returns-clause-member c = knows_member

pub returns-clause-at_hand : goal.returns-clause-at_hand
returns-clause-at_hand c = hand_member

pub returns-clause-leave : goal.returns-clause-leave
returns-clause-leave c = leave_law
