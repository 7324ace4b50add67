pub mod Scopes
pub mod Branches
pub mod Loops
pub mod Shaped
pub mod Variables
