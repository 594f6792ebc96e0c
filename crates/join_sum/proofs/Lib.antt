pub mod SumWords
