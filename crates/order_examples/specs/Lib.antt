pub mod Words
pub mod Starts
pub mod Calls
pub mod Launches
pub mod Roots
