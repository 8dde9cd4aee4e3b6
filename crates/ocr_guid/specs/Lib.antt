pub mod Code
pub mod Target
