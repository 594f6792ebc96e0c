pub mod Joins
pub mod Alike
