use Rattle.ocr_machine_laws.proofs.Finished.{finish_law, all_left_law}
use Rattle.ocr_machine_laws.proofs.Members.{members_law, leaving_law}
use Rattle.ocr_machine_laws.proofs.Room.{joining_law}
use Rattle.ocr_machine_laws.proofs.laws.scope_laws.Goals as goal

pub returns-clause-members : goal.returns-clause-members
returns-clause-members c = members_law

pub returns-clause-leaving : goal.returns-clause-leaving
returns-clause-leaving c = leaving_law

pub returns-clause-joining : goal.returns-clause-joining
returns-clause-joining c = joining_law

pub returns-clause-finish : goal.returns-clause-finish
returns-clause-finish c = finish_law

pub returns-clause-all_left : goal.returns-clause-all_left
returns-clause-all_left c = all_left_law
