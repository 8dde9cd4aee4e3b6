pub mod Causes
pub mod Loads
pub mod Makers
pub mod Pairs
pub mod Places
pub mod Races
