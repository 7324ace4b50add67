mod Columns
mod Currents
pub mod Examples
pub mod Filling
mod Giving
mod Keeping
mod Marking
mod Room
mod Stretches
mod Taking
