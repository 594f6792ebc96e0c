pub mod SumLaws
mod StepLaws
