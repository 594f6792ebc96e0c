pub mod NodeLaws
mod ChildLaws
mod InsideLaws
