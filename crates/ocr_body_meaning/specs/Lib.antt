pub mod Behaviour
pub mod Body
pub mod Call
pub mod Holds
pub mod Laws
pub mod Meaning
pub mod Units
pub mod Words
