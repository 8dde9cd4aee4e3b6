pub mod Complete
pub mod Exact
pub mod Fits
pub mod Marks
pub mod One
pub mod Places
pub mod Sound
pub mod Unfinished
