mod VerdictLaws
pub mod Claims
