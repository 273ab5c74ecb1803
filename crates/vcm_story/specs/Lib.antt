pub mod State
pub mod Steps
pub mod Stories
pub mod Laws
pub mod Samples
pub mod inner
