pub mod Fine
pub mod Laws
pub mod Numbers
pub mod Plain
pub mod Samples
pub mod Units
