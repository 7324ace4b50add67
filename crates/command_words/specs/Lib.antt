pub mod Settings
pub mod Uses
pub mod Commands
pub mod Matched
pub mod Parser
pub mod Given
