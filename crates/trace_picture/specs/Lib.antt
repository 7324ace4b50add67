pub mod Drawings
pub mod Laws
pub mod Pictures
pub mod Styles
pub mod Verdicts
pub mod Views
