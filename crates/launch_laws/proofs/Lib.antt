pub mod Calls
pub mod Loops
pub mod Pieces
pub mod QuietExpressions
pub mod QuietStatements
pub mod Statements
pub mod Programs
pub mod Example
