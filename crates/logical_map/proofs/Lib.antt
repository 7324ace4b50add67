pub mod Beside
pub mod Deciding
pub mod Examples
pub mod Filling
pub mod Giving
pub mod Moving
pub mod Reading
pub mod Swapping
