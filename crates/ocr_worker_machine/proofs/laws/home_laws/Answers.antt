use Rattle.ocr_worker_machine.proofs.Homes.{hand_home, knows_home}
use Rattle.ocr_worker_machine.proofs.laws.home_laws.Goals as goal

pub returns-clause-home : goal.returns-clause-home
returns-clause-home c = knows_home

pub returns-clause-at_hand : goal.returns-clause-at_hand
returns-clause-at_hand c = hand_home
