pub mod Digits
pub mod Counted
pub mod Spelling
pub mod Sizes
pub mod Rulesets
pub mod Lexed
pub mod Nested
