pub mod Grows
pub mod Forms
pub mod Following
pub mod Arms
pub mod Joined
pub mod Calls
