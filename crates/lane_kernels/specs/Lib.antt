pub mod Fronts
pub mod Kernels
pub mod Laws
pub mod Modes
pub mod Numbers
