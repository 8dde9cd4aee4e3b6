pub mod Entry
pub mod Laws
pub mod Number
pub mod Push
pub mod Readiness
pub mod Work
