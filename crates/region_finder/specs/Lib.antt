pub mod Forests
pub mod Laws
pub mod Listings
