use Rattle.ocr_machine_laws.proofs.Kept.{kept_law, back_law, after_kept_law, untouched_law, own_core_law}
use Rattle.ocr_machine_laws.proofs.Filled.{filled_law}
use Rattle.ocr_machine_laws.proofs.laws.kept_laws.Goals as goal

pub returns-clause-kept : goal.returns-clause-kept
returns-clause-kept c = kept_law

pub returns-clause-back : goal.returns-clause-back
returns-clause-back c = back_law

pub returns-clause-after : goal.returns-clause-after
returns-clause-after c = after_kept_law

pub returns-clause-untouched : goal.returns-clause-untouched
returns-clause-untouched c = untouched_law

pub returns-clause-own_core : goal.returns-clause-own_core
returns-clause-own_core c = own_core_law

pub returns-clause-filled : goal.returns-clause-filled
returns-clause-filled c = filled_law
