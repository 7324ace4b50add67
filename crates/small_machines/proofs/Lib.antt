pub mod SmallLaws
pub mod Numbered
pub mod NumberedLaws
pub mod NumberedBoards
