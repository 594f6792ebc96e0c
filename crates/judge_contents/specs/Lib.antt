pub mod Content
pub mod Tries
