pub mod Check
pub mod Checked
pub mod Names
pub mod Messages
