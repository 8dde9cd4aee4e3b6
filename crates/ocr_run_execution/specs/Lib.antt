pub mod Ending
pub mod Executed
pub mod Lines
pub mod Messages
pub mod Output
pub mod ProgramText
