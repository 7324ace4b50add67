pub mod Boards
pub mod Texts
pub mod Results
