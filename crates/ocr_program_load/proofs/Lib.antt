pub mod Lexer
pub mod Reader
pub mod Loaded
