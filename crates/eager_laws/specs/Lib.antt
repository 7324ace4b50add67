pub mod Steps
pub mod Pendings
pub mod Laws
