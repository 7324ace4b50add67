pub mod Fills
pub mod Gives
pub mod Laws
pub mod Maps
