use Rattle.ocr_acquire.proofs.Laws.{plan_law, only_plan_law, given_law, length_law}
use Rattle.ocr_acquire.proofs.plan_laws.Goals as goal

pub returns-clause-plan : goal.returns-clause-plan
returns-clause-plan c = plan_law

pub returns-clause-only : goal.returns-clause-only
returns-clause-only c = only_plan_law

pub returns-clause-given : goal.returns-clause-given
returns-clause-given c = given_law

pub returns-clause-length : goal.returns-clause-length
returns-clause-length c = length_law
