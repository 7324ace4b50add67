pub mod Adding
pub mod Parameters
pub mod Named
