pub mod Folds
pub mod Frames
pub mod Laws
pub mod RegentMachine
pub mod RootRenaming
