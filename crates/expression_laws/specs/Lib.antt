pub mod Instances
pub mod Kinds
pub mod Needs
pub mod Sound
pub mod Writing
pub mod WrittenStatements
pub mod Laws
