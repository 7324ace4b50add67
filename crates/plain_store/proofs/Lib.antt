pub mod ColumnLaws
pub mod Fetching
pub mod Giving
pub mod Lending
pub mod Needing
pub mod Placing
pub mod Returning
pub mod Walking
