pub mod ByNumber
mod Found
mod Issued
mod Settled
mod Steps
mod Numbers
