pub mod Yields
pub mod Gives
pub mod Journals
pub mod Settled
