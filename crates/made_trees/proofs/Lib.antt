pub mod Roots
pub mod Going
pub mod Rooted
pub mod Parts
pub mod Higher
pub mod Parted
