pub mod Outcomes
pub mod Laws
pub mod Finished
pub mod Jobs
pub mod Example
pub mod Settled
