pub mod Members
pub mod Placing
pub mod Steps
