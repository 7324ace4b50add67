pub mod Lines
pub mod Refusals
pub mod Items
pub mod Loops
