pub mod Raised
pub mod Reversed
pub mod Settles
pub mod Suiting
