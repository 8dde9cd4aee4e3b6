pub mod Forms
pub mod Tokens
pub mod Laws
pub mod Scan
pub mod Texts
pub mod Messages
