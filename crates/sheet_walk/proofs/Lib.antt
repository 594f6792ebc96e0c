pub mod WalkLaws
pub mod WordTests
