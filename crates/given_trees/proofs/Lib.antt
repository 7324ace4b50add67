pub mod Behind
pub mod Values
pub mod Resumed
pub mod Maps
pub mod PutBack
pub mod Segments
pub mod Parts
pub mod Left
