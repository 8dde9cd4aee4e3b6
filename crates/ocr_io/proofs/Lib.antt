pub mod KnownBytes
pub mod Taken
