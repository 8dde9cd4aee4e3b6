pub mod Clerks
pub mod Seats
