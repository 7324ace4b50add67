pub mod Shapes
pub mod Fitting
pub mod Spaces
pub mod Keeping
pub mod Laws
