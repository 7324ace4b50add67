pub mod Words
pub mod Instructions
pub mod Launches
pub mod Values
pub mod Asked
pub mod Wants
pub mod Frames
pub mod Pendings
