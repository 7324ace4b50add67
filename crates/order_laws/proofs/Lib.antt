pub mod Waits
pub mod Rounds
pub mod Ends
pub mod Resuming
pub mod Whole
