pub mod Mappings
pub mod Targets
