pub mod Yields
pub mod Parts
pub mod Wrapped
