use Rattle.ocr_turns_rule.proofs.Sole.{same_history}
use Rattle.ocr_turns_rule.proofs.laws.sole_laws.Goals as goal

pub returns : goal.returns
returns g c = λ t v J K a b f h. same_history g.M.Machine.meaning t v J K a b f h
