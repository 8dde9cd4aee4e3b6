use Rattle.ocr_machine_laws.proofs.Permanence.{made_law, stays_law}
use Rattle.ocr_machine_laws.proofs.Once.{set_once_law, delivered_law}
use Rattle.ocr_machine_laws.proofs.Planned.{planned_law}
use Rattle.ocr_machine_laws.proofs.Own.{no_own_law, fresh_law, body_law}
use Rattle.ocr_machine_laws.proofs.laws.lasting_laws.Goals as goal

pub returns-clause-made : goal.returns-clause-made
returns-clause-made c = made_law

pub returns-clause-once : goal.returns-clause-once
returns-clause-once c = set_once_law

pub returns-clause-delivered : goal.returns-clause-delivered
returns-clause-delivered c = delivered_law

pub returns-clause-stays : goal.returns-clause-stays
returns-clause-stays c = stays_law

pub returns-clause-planned : goal.returns-clause-planned
returns-clause-planned c = planned_law

pub returns-clause-no_own : goal.returns-clause-no_own
returns-clause-no_own c = no_own_law

pub returns-clause-fresh : goal.returns-clause-fresh
returns-clause-fresh c = fresh_law

pub returns-clause-body : goal.returns-clause-body
returns-clause-body c = body_law
