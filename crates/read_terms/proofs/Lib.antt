pub mod Loops
pub mod Lengths
pub mod NodeLaws
pub mod Wrapping
