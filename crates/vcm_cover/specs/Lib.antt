pub mod Hollows
pub mod Models
pub mod inner
pub mod Samples
