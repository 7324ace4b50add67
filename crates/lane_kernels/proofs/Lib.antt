pub mod Examples
pub mod Going
pub mod Operators
mod Products
pub mod SameOps
pub mod Vectors
pub mod Wraps
