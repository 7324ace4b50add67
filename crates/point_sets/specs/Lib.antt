pub mod Forms
pub mod Laws
pub mod Operations
pub mod Runs
pub mod Stretches
pub mod Sweeps
