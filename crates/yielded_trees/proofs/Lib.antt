pub mod Found
pub mod Builder
pub mod Trees
pub mod Out
pub mod Paused
pub mod Wanted
pub mod Awaited
