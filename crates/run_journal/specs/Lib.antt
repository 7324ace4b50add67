pub mod Journals
pub mod Numbers
