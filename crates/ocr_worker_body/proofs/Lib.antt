pub mod Desks
pub mod Freed
pub mod FreeEntries
pub mod Functions
pub mod Givens
pub mod Returns
pub mod Stepped
pub mod Values
