pub mod Lent
pub mod Block
pub mod Steps
pub mod Replaced
pub mod Tally
