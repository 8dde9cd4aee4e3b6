pub mod Cases
pub mod Holds
pub mod Judge
pub mod Links
pub mod Mail
pub mod Tests
