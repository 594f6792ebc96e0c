pub mod TagLaws
pub mod SourceLaws
pub mod FirstLaws
