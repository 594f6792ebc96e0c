pub mod Joins
pub mod JoinsAny
pub mod RoundTrip
