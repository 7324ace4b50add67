pub mod Fitting
pub mod Steps
pub mod Boards
