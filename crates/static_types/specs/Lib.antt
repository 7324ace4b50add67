pub mod Counting
pub mod Partitions
pub mod Formats
pub mod Telling
pub mod Scopes
pub mod Params
