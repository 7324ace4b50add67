pub mod Gives
pub mod Levels
pub mod Heads
pub mod Nodes
