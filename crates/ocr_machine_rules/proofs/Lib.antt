pub mod Blocks
pub mod Bodies
pub mod Codes
pub mod Edts
pub mod Events
pub mod Whole
pub mod Messages
pub mod Rules
