pub mod TagLaws
pub mod ChainLaws
pub mod TableLaws
