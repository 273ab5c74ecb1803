pub mod Labels
pub mod Keys
pub mod Boxes
pub mod BoxFile
pub mod inner
pub mod Laws
pub mod Samples
