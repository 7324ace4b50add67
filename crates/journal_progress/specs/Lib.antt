pub mod Steps
pub mod Ready
pub mod Laws
pub mod Claims
pub mod Parts
