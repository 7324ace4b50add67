pub mod Alike
mod Instructions
mod Launches
pub mod Openings
mod Operations
pub mod Segments
mod Words
