pub mod Along
pub mod Behind
pub mod Chains
pub mod Reading
pub mod Turning
pub mod Putting
pub mod Many
