pub mod Edts
pub mod History
pub mod Made
pub mod Numbers
pub mod Output
pub mod Stale
pub mod Weight
