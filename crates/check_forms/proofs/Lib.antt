pub mod ByForm
pub mod Assigned
