pub mod Fits
pub mod Joined
pub mod Machine
pub mod Marks
pub mod Stack
pub mod StackView
pub mod View
