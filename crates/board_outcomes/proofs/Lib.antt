pub mod Filling
pub mod Tellings
