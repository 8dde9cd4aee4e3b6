use Rattle.ocr_machine_parts.proofs.After.{after_law}
use Rattle.ocr_machine_parts.proofs.Keeps.{frame_law}
use Rattle.ocr_machine_parts.proofs.Local.{effect_law, code_law, legality_law}
use Rattle.ocr_machine_parts.proofs.Within.{within_law}
use Rattle.ocr_machine_parts.proofs.Held.{holds_law}
use Rattle.ocr_machine_parts.proofs.laws.machine_laws.Goals as goal

pub returns-clause-after : goal.returns-clause-after
returns-clause-after c = after_law

pub returns-clause-effect : goal.returns-clause-effect
returns-clause-effect c = effect_law

pub returns-clause-code : goal.returns-clause-code
returns-clause-code c = code_law

pub returns-clause-legality : goal.returns-clause-legality
returns-clause-legality c = legality_law

pub returns-clause-frame : goal.returns-clause-frame
returns-clause-frame c = frame_law

pub returns-clause-within : goal.returns-clause-within
returns-clause-within c = within_law

pub returns-clause-holds : goal.returns-clause-holds
returns-clause-holds c = holds_law
