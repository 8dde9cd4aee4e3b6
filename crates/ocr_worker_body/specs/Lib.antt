pub mod Body
pub mod Given
pub mod Start
