pub mod BlocksText
pub mod Counts
pub mod Doomed
pub mod Made
pub mod Numbered
pub mod Opened
mod RacesText
mod Ascent
pub mod Tallied
pub mod Unstarted
pub mod Uses
