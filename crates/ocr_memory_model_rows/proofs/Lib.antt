pub mod Bits
pub mod Reach
pub mod Notes
pub mod Joins
