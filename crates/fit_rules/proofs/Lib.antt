pub mod Points
pub mod Example
pub mod Misfits
pub mod Stacked
