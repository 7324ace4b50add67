pub mod Variables
pub mod Visits
pub mod Bodies
pub mod Sound
