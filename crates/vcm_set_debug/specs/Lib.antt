pub mod Reached
pub mod Halting
pub mod Session
pub mod Telling
pub mod Serving
pub mod Laws
pub mod inner
pub mod Samples
