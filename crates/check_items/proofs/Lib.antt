pub mod Again
pub mod Entries
pub mod Declaring
