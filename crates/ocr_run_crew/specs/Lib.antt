pub mod Limits
pub mod Ended
pub mod Logs
pub mod Seats
