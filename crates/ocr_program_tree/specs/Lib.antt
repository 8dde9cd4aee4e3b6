pub mod Argument
pub mod Constant
pub mod Each
pub mod Functions
pub mod Rules
pub mod Runnable
pub mod Tree
pub mod View
