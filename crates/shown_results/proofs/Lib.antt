pub mod Told
pub mod Finished
pub mod Images
pub mod Results
pub mod Settled
