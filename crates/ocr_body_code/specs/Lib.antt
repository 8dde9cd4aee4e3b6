pub mod Checked
pub mod Code
pub mod Places
pub mod Resolved
