pub mod Texts
pub mod Lexing
pub mod Example
