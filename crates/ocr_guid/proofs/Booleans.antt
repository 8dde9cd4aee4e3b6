-- Lemmas on Booleans, for the crates that take ocr_base through this one.
pub use Rattle.ocr_base.proofs.Booleans.{neither}
