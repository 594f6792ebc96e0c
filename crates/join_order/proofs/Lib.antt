pub mod OrderWords
