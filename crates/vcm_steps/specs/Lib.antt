pub mod Passages
pub mod inner
