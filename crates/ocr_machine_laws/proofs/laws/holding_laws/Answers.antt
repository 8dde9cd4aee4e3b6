use Rattle.ocr_machine_laws.proofs.Held.{holding_law, held_law, kept_fits_law}
use Rattle.ocr_machine_laws.proofs.laws.holding_laws.Goals as goal

pub returns-clause-holding : goal.returns-clause-holding
returns-clause-holding c = holding_law

pub returns-clause-held : goal.returns-clause-held
returns-clause-held c = held_law

pub returns-clause-fits : goal.returns-clause-fits
returns-clause-fits c = kept_fits_law
