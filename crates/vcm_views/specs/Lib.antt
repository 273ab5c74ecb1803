pub mod Untried
pub mod Readings
pub mod Views
pub mod Laws
pub mod inner
