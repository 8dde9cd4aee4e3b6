-- The laws of what stands in every run, for those who keep parts of it.
pub use Rattle.ocr_machine_laws.proofs.Stages.{standing_law}
pub use Rattle.ocr_machine_laws.proofs.Kept.{alike_kept, kept_law}
