pub mod Seen
pub mod Sites
pub mod Steps
pub mod Granting
pub mod Lying
pub mod Calls
