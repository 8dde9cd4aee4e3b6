pub mod Hand
pub mod Log
pub mod Owed
