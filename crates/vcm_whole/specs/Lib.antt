pub mod Whole
pub mod inner
pub mod Losses
pub mod Readings
pub mod Frames
pub mod Laws
