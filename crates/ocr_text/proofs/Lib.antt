pub mod Bytes
pub mod Runs
pub mod Fronts
pub mod Laws
pub mod Values
pub mod Texts
