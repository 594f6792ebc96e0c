pub mod BitLaws
pub mod MemberLaws
pub mod SetLaws
pub mod GistLaws
pub mod SignedLaws
