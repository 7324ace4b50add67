pub mod Changes
pub mod Edits
pub mod Open
pub mod Listed
pub mod Given
