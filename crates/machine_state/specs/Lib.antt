pub mod Aims
pub mod Casts
pub mod Columns
pub mod Fills
pub mod Holding
pub mod Operands
pub mod Rounds
pub mod Takings
