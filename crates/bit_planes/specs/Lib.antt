pub mod Planes
pub mod Words
