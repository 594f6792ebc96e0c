mod LiftLaws
pub mod ExtentLaws
