pub mod Rows
pub mod Taken
pub mod Quarters
pub mod Repeated
pub mod RoundTrip
