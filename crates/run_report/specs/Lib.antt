pub mod Dumps
pub mod FaultLines
