pub mod Passing
pub mod Noted
pub mod Collecting
pub mod Laws
pub mod Samples
pub mod inner
