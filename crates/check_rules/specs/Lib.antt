pub mod types
pub mod scopes
pub mod rules
pub mod launches
pub mod first
pub mod Breaches
pub mod Laws
pub mod Acceptance
