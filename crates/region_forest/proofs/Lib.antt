pub mod Above
pub mod Growing
pub mod Holding
