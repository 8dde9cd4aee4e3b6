pub mod Headline
pub mod Wants
