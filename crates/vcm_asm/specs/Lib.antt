pub mod inner
pub mod Assembled
pub mod Samples
pub mod Simulation
