pub mod Casting
pub mod Filling
pub mod Hints
pub mod Quotients
pub mod Reading
pub mod Spots
pub mod Taking
pub mod Widths
