pub mod Answers
pub mod Boards
pub mod Books
pub mod Seats
