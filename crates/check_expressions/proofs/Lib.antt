pub mod Made
pub mod Places
pub mod Lying
pub mod Called
pub mod Members
pub mod Prefixes
pub mod Granted
