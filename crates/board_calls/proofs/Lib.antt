pub mod Frames
pub mod Issues
pub mod Maps
pub mod Same
