pub mod Indexing
pub mod ByKind
pub mod Chains
