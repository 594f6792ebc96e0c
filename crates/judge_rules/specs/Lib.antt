pub mod Rules
pub mod Found
