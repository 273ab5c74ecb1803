pub mod Measuring
pub mod Seen
pub mod Noted
pub mod Meant
pub mod Turned
pub mod Laws
pub mod Samples
pub mod inner
