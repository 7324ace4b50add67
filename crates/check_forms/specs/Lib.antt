pub mod Heads
pub mod Targets
