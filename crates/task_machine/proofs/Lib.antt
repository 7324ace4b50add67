pub mod Casting
pub mod Coming
pub mod Rounds
pub mod Taking
pub mod Tasks
pub mod Operating
