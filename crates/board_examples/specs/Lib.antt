pub mod Words
pub mod Schedules
pub mod Faults
pub mod Numbers
