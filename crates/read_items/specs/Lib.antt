pub mod TaskHeads
