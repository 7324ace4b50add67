pub mod Bodies
pub mod Codes
pub mod OfItems
pub mod Shapes
