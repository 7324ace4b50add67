pub mod Shapes
pub mod Marks
pub mod Fits
pub mod Ends
pub mod Sound
pub mod Example
