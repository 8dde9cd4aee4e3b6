pub mod LoadText
pub mod Laws
