mod Beside
pub mod Examples
