pub mod Differences
pub mod Beginning
pub mod Variables
