pub mod Values
pub mod Wants
pub mod Frames
pub mod Pendings
