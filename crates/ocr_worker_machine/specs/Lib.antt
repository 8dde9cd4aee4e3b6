pub mod Clerks
pub mod Drained
pub mod Facts
pub mod Holds
pub mod Ocr
