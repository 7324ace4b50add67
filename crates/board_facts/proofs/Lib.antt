pub mod Families
pub mod Giving
pub mod Held
pub mod Lists
pub mod Replays
pub mod Telling
