pub mod InputLaws
pub mod Meant
pub mod Judging
pub mod Statuses
pub mod Using
pub mod Coming
pub mod Writing
pub mod Answering
