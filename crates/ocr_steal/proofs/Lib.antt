pub mod Steps
pub mod Passes
pub mod Owners
pub mod Wholes
pub mod Columns
pub mod Orders
