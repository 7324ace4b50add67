pub mod Gives
pub mod Makes
pub mod Rooms
