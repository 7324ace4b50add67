pub mod Apart
pub mod Colours
mod Gathering
pub mod Inside
mod LinkLists
pub mod Pairs
mod Reached
