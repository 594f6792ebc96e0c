mod PassedLaws
mod Outcomes
