pub mod Segments
pub mod Makes
pub mod Example
pub mod Launching
pub mod Within
