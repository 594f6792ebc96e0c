pub mod Node
pub mod Judging
pub mod ChildWords
pub mod Found
