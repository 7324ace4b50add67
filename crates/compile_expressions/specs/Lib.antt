pub mod Leads
pub mod Members
