pub mod Words
pub mod Adding
pub mod inner
pub mod Samples
