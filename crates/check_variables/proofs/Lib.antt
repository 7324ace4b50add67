pub mod Varied
pub mod Differences
pub mod InitializerForms
pub mod Alone
