pub mod Statements
pub mod Places
pub mod Unused
pub mod Fixtures
pub mod Laws
