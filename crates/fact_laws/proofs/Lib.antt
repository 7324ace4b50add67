pub mod Facts
pub mod Example
