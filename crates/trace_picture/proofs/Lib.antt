pub mod Counts
pub mod Pieces
pub mod Segments
pub mod Viewing
