pub mod Results
pub mod Settled
