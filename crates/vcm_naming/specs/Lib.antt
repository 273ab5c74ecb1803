pub mod Naming
pub mod Pages
pub mod Samples
pub mod Laws
