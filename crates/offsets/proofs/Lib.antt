pub mod Scan
mod Parts
pub mod LineLaws
pub mod IndexLaws
