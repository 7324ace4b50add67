mod Calls
pub mod Examples
