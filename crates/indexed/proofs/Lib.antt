pub mod SpotLaws
pub mod RuleParts
pub mod WalkLaws
