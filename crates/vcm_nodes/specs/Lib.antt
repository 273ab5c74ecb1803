pub mod Nodes
pub mod Jumps
pub mod inner
