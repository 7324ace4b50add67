pub mod Blocks
pub mod Following
pub mod LoopBlocks
pub mod Whole
