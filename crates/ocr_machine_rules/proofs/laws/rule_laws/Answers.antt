use Rattle.ocr_machine_rules.proofs.Blocks.{contents_is, line_is}
use Rattle.ocr_machine_rules.proofs.Edts.{plan_is, next_is, held_is}
use Rattle.ocr_machine_rules.proofs.Events.{destroyed_is}
use Rattle.ocr_machine_rules.proofs.Whole.{code_is, says_is, legal_is, run_is, quiet_is, creating_is, weighed_is}
use Rattle.ocr_machine_rules.proofs.Messages.{pending_is}
use Rattle.ocr_machine_rules.proofs.laws.rule_laws.Goals as goal

pub returns-clause-plan : goal.returns-clause-plan
returns-clause-plan c = plan_is

pub returns-clause-next : goal.returns-clause-next
returns-clause-next c = next_is

pub returns-clause-held : goal.returns-clause-held
returns-clause-held c = held_is

pub returns-clause-contents : goal.returns-clause-contents
returns-clause-contents c = contents_is

pub returns-clause-line : goal.returns-clause-line
returns-clause-line c = line_is

pub returns-clause-destroyed : goal.returns-clause-destroyed
returns-clause-destroyed c = destroyed_is

pub returns-clause-code : goal.returns-clause-code
returns-clause-code c = code_is

pub returns-clause-pending : goal.returns-clause-pending
returns-clause-pending c = pending_is

pub returns-clause-says : goal.returns-clause-says
returns-clause-says c = says_is

pub returns-clause-legal : goal.returns-clause-legal
returns-clause-legal c = legal_is

pub returns-clause-run : goal.returns-clause-run
returns-clause-run c = run_is

pub returns-clause-quiet : goal.returns-clause-quiet
returns-clause-quiet c = quiet_is

pub returns-clause-creating : goal.returns-clause-creating
returns-clause-creating c = creating_is

pub returns-clause-weighed : goal.returns-clause-weighed
returns-clause-weighed c = weighed_is
