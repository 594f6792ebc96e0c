pub mod ClassLaws
mod ByteTests
