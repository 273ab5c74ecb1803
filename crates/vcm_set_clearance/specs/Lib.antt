pub mod Events
pub mod Swings
pub mod Laws
pub mod Report
pub mod Chooser
pub mod Samples
pub mod inner
