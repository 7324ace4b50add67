pub mod Boards
pub mod Desks
pub mod Givens
pub mod Rooms
