pub mod Placed
pub mod Long
pub mod Validity
pub mod Firsts
pub mod Remarked
