pub mod Places
pub mod Aims
pub mod inner
