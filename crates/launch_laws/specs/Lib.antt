pub mod Laws
pub mod Launched
pub mod Example
