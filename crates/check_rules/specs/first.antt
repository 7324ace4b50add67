pub mod Rules
pub mod FirstInExpressions
pub mod FirstInStatements
pub mod FirstInItems
