pub mod Canonical
pub mod RoundTrip
pub mod Written
