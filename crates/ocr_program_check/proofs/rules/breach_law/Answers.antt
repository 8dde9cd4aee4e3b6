use Rattle.ocr_program_check.proofs.First.{breach_is_one}
use Rattle.ocr_program_check.proofs.rules.breach_law.Goals as goal

pub returns : goal.returns
returns c = breach_is_one
