pub mod Owed
pub mod Delivered
mod Faced
mod Left
mod Satisfied
