pub mod Blocks
pub mod Bodies
pub mod Codes
pub mod Events
pub mod Laws
pub mod Messages
pub mod Rules
