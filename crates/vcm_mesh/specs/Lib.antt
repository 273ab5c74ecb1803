pub mod Lengths
pub mod Placings
pub mod Meshes
pub mod inner
pub mod Samples
