pub mod Marked
pub mod Bodies
