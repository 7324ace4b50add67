pub mod Families
pub mod Given
pub mod Laws
pub mod Rooms
pub mod Texts
