pub mod Tests
pub mod Asked
