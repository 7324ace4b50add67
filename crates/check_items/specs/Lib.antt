pub mod Halting
pub mod Given
pub mod Entries
pub mod Declaring
