pub mod Regions
pub mod Laws
pub mod Example
