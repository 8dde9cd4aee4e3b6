pub mod Bundles
pub mod Order
pub mod Places
pub mod Rows
