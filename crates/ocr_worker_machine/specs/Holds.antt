-- What stands in every run of the machine, for those who keep parts of it.
pub use Rattle.ocr_machine_laws.specs.Waits.{awaits, awaits_in}
pub use Rattle.ocr_machine_laws.specs.Kept.{AreKept, kept_ready}
pub use Rattle.ocr_machine_parts.specs.Readiness.{plan_from}
pub use Rattle.ocr_machine_laws.specs.Permanence.{is_own}
