pub mod Alone
pub mod Targets
