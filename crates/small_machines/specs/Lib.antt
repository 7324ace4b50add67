pub mod Small
pub mod NumberedMachines
