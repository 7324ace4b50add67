pub mod Points
pub mod Shapes
