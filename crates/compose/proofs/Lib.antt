mod LimitChecks
mod AnswerLaws
pub mod Claims
