mod Steps
mod Tokens
pub mod Readings
