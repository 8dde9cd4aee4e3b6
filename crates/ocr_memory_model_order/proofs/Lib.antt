mod Tied
pub mod Forward
pub mod Fronts
pub mod Gained
pub mod Graphs
pub mod Loaded
pub mod Modes
pub mod Steady
pub mod Writes
