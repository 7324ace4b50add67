pub mod BlockLaws
pub mod Lengths
