pub mod Stands
pub mod Forms
