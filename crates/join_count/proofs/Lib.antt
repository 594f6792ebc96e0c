pub mod CountWords
pub mod StepWords
pub mod StepLaws
