pub mod Names
pub mod Frames
pub mod Waits
pub mod Stages
pub mod Shows
pub mod Laws
pub mod Told
pub mod Places
