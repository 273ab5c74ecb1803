pub mod Halting
pub mod Debugging
pub mod Session
pub mod Laws
pub mod Serving
pub mod inner
pub mod Sample
