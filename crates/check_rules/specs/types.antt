pub mod Sorts
pub mod Fitting
pub mod Lookup
pub mod Parts
pub mod TypedForms
pub mod Params
pub mod Declarations
pub mod KnownTypes
