use Rattle.ocr_machine_laws.proofs.Stages.{standing_law, told_law}
use Rattle.ocr_machine_laws.proofs.Given.{wanted_law}
use Rattle.ocr_machine_laws.proofs.Quietness.{above_law}
use Rattle.ocr_machine_laws.proofs.Edts.{edts_law}
use Rattle.ocr_machine_laws.proofs.quiet.standing_laws.Goals as goal

pub returns-clause-standing : goal.returns-clause-standing
returns-clause-standing c = standing_law

pub returns-clause-told : goal.returns-clause-told
returns-clause-told c = told_law

pub returns-clause-wanted : goal.returns-clause-wanted
returns-clause-wanted c = wanted_law

pub returns-clause-bound : goal.returns-clause-bound
returns-clause-bound c = above_law

pub returns-clause-edts : goal.returns-clause-edts
returns-clause-edts c = edts_law
