pub mod Tellings
pub mod Images
