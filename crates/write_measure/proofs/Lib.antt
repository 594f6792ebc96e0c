mod NodeLaws
pub mod LengthLaws
pub mod Listing
