pub mod Certain
pub mod inner
