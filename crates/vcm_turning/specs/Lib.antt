pub mod Choosing
pub mod Turning
pub mod Machine
pub mod Steps
pub mod Following
pub mod inner
pub mod Laws
pub mod Samples
