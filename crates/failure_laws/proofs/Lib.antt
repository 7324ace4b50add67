pub mod Failures
mod Settled
