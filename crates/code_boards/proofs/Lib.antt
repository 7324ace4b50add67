pub mod Beginning
pub mod Boards
pub mod Elements
pub mod Ends
mod Example
pub mod Filled
pub mod Lasting
pub mod Regrouping
pub mod Views
