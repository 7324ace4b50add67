pub mod Boards
pub mod ByNumber
pub mod Folds
pub mod NeedLaws
pub mod NeedRenaming
pub mod RootRenaming
