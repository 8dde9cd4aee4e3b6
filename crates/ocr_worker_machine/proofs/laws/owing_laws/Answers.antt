use Rattle.ocr_worker_machine.proofs.Owed.{deliver_law, hand_satisfiable, knows_satisfiable}
use Rattle.ocr_worker_machine.proofs.laws.owing_laws.Goals as goal

pub returns-clause-satisfiable : goal.returns-clause-satisfiable
returns-clause-satisfiable c = knows_satisfiable

pub returns-clause-at_hand : goal.returns-clause-at_hand
returns-clause-at_hand c = hand_satisfiable

pub returns-clause-deliver : goal.returns-clause-deliver
returns-clause-deliver c = deliver_law
