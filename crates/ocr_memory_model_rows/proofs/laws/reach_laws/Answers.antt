use Rattle.ocr_memory_model_rows.proofs.Reach.{within, through}
use Rattle.ocr_memory_model_rows.proofs.laws.reach_laws.Goals as goal

pub returns-clause-within : goal.returns-clause-within
returns-clause-within c = within

pub returns-clause-through : goal.returns-clause-through
returns-clause-through c = through
