mod Accesses
pub mod Holding
