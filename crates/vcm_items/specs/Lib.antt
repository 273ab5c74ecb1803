pub mod NameBytes
pub mod Names
pub mod Typed
pub mod Slots
pub mod Run
pub mod Towers
pub mod inner
