pub mod Pieces
pub mod Short
pub mod Lengthened
pub mod Laws
pub mod Samples
pub mod inner
