pub mod Awaited
pub mod Entries
pub mod Graphs
pub mod Issues
pub mod Knots
pub mod Laws
pub mod Links
pub mod Rows
