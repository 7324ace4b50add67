pub mod Telling
pub mod Scopes
pub mod Agreement
pub mod ElementTypes
pub mod SaidInOrder
