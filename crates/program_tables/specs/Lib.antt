pub mod Lookups
pub mod Kinds
pub mod Hiding
