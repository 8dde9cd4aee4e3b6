pub mod Accesses
pub mod Calls
pub mod Access
pub mod Served
pub mod Stops
