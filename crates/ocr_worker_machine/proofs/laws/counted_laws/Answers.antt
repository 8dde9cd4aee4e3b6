use Rattle.ocr_worker_machine.proofs.Owed.{hand_counted, knows_counted}
use Rattle.ocr_worker_machine.proofs.laws.counted_laws.Goals as goal

pub returns-clause-counted : goal.returns-clause-counted
returns-clause-counted c = knows_counted

pub returns-clause-at_hand : goal.returns-clause-at_hand
returns-clause-at_hand c = hand_counted
