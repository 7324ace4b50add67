pub mod Derivations
pub mod Looking
pub mod Rows
