pub mod Form
pub mod Numerals
pub mod Wanted
pub mod Given
pub mod Reader
pub mod Messages
