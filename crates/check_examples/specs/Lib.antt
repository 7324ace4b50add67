pub mod Accepted
pub mod NameExamples
pub mod TypeExamples
pub mod PrivilegeExamples
pub mod ConstraintExamples
pub mod RegionExamples
pub mod ItemExamples
