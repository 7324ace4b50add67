pub mod Fields
pub mod Instances
pub mod Kept
