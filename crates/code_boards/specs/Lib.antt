pub mod Example
pub mod Laws
pub mod Pieces
pub mod Views
