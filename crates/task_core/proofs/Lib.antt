pub mod Finished
pub mod Gives
pub mod Imaging
pub mod Readying
pub mod Starts
pub mod Steps
