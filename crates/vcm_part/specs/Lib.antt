pub mod Faults
pub mod PartFile
pub mod Tip
pub mod Blocks
pub mod inner
pub mod Laws
pub mod Samples
