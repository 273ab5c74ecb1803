pub mod First
pub mod Lines
pub mod Telling
pub mod Laws
pub mod inner
