pub mod Calls
pub mod Creation
