pub mod Going
pub mod Operations
pub mod Runs
pub mod Example
pub mod UnionExample
pub mod Laws
