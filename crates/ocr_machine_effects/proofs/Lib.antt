pub mod Links
pub mod Numbered
pub mod Places
pub mod Steps
