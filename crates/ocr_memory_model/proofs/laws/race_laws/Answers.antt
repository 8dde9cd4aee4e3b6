use Rattle.ocr_memory_model.proofs.Sole.{sole_law}
use Rattle.ocr_memory_model.proofs.laws.race_laws.Goals as goal

pub returns : goal.returns
returns c = sole_law
