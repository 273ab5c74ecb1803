pub mod Placed
pub mod Samples
pub mod Laws
