pub mod Shares
pub mod Writes
pub mod Members
pub mod Ascent
pub mod Ranks
pub mod Laws
pub mod Sorts
pub mod Order
