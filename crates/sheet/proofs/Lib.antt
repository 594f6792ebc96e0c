pub mod Over
mod Files
mod Answers
