use Rattle.ocr_report.proofs.RacesText.{sole_text_law}
use Rattle.ocr_report.proofs.laws.races_text_laws.Goals as goal

pub returns : goal.returns
returns c = sole_text_law
