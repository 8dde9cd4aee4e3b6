use Rattle.ocr_machine_laws.proofs.Sleepers.{wake_law, quiet_law, nobody_law}
use Rattle.ocr_machine_laws.proofs.Drains.{fate_law, idle_law, drain_law, done_law}
use Rattle.ocr_machine_laws.proofs.quiet.quiet_laws.Goals as goal

pub returns-clause-wake : goal.returns-clause-wake
returns-clause-wake c = wake_law

pub returns-clause-quiet : goal.returns-clause-quiet
returns-clause-quiet c = quiet_law

pub returns-clause-nobody : goal.returns-clause-nobody
returns-clause-nobody c = nobody_law

pub returns-clause-fate : goal.returns-clause-fate
returns-clause-fate c = fate_law

pub returns-clause-idle : goal.returns-clause-idle
returns-clause-idle c = idle_law

pub returns-clause-drain : goal.returns-clause-drain
returns-clause-drain c = drain_law

pub returns-clause-done : goal.returns-clause-done
returns-clause-done c = done_law
