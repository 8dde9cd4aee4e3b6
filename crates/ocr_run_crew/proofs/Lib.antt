pub mod Weights
pub mod Numbers
pub mod Whole
pub mod Seated
pub mod Opening
