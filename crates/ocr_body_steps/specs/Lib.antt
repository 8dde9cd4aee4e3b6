pub mod Api
pub mod Given
pub mod Local
pub mod Plain
pub mod Steps
