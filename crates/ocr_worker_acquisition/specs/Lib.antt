pub mod Acquisition
pub mod Block
pub mod Park
pub mod Rounds
