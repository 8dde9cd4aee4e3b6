-- The laws, put together.
use Rattle.ocr_machine_rules.specs.Laws.{CodeLaw, LegalLaw, QuietLaw, RunLaw, SaysLaw, CreatingLaw, WeighedLaw}
use Rattle.ocr_machine_rules.proofs.Blocks.{contents_is, line_is}
use Rattle.ocr_machine_rules.proofs.Bodies.{says_by}
use Rattle.ocr_machine_rules.proofs.Codes.{codes_agree}
use Rattle.ocr_machine_rules.proofs.Edts.{next_is, held_is, lost_is}
use Rattle.ocr_machine_rules.proofs.Events.{destroyed_is, refusal_is}
use Rattle.ocr_machine_rules.proofs.Messages.{pending_is}
use Rattle.ocr_machine_rules.proofs.Rules.{legal_law, run_law, quiet_law, creating_law, weighed_law}

pub code_is : CodeLaw
code_is = codes_agree held_is

pub says_is : SaysLaw
says_is = says_by held_is contents_is lost_is

pub legal_is : LegalLaw
legal_is = legal_law next_is held_is contents_is line_is destroyed_is code_is pending_is says_is refusal_is

pub run_is : RunLaw
run_is = run_law next_is held_is contents_is line_is destroyed_is code_is pending_is says_is refusal_is

pub quiet_is : QuietLaw
quiet_is = quiet_law next_is held_is contents_is line_is destroyed_is code_is pending_is says_is refusal_is

pub creating_is : CreatingLaw
creating_is = creating_law next_is held_is contents_is line_is destroyed_is code_is pending_is says_is refusal_is

pub weighed_is : WeighedLaw
weighed_is = weighed_law next_is held_is contents_is line_is destroyed_is code_is pending_is says_is refusal_is
