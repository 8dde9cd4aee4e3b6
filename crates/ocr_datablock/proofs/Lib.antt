pub mod Lines
pub mod Laws
pub mod Replaced
pub mod Tallies
pub mod Rows
