mod JudgeLaws
pub mod Claims
