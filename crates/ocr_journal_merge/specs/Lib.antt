pub mod Merged
pub mod Numbered
