pub mod Renaming
pub mod Resuming
