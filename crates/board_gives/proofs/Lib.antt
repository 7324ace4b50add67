pub mod Makes
pub mod Parts
pub mod Returns
pub mod Tellings
pub mod Waits
