pub mod Debts
pub mod Leave
pub mod Progress
pub mod Steal
