pub mod Here
pub mod Positions
pub mod Symbols
