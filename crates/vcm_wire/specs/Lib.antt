pub mod Frames
pub mod Messages
pub mod Requests
pub mod Laws
pub mod Samples
pub mod inner
