pub mod Whole
pub mod Opened
pub mod inner
pub mod Laws
