pub mod Count
pub mod Default
pub mod Mail
