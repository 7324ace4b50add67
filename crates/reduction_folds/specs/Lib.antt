pub mod Folds
pub mod Waiting
