pub mod Alike
pub mod Steps
pub mod Table
pub mod Apartness
pub mod Widening
pub mod Few
