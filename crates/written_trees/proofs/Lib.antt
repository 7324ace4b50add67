pub mod Writings
pub mod Expressions
pub mod Statements
pub mod Texts
pub mod Within
