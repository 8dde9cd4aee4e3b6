pub mod Mode
pub mod Plan
pub mod Writes
