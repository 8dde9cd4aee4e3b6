pub mod Begun
pub mod Held
pub mod Letters
pub mod Nexts
pub mod Steps
