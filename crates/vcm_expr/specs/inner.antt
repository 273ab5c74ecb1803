-- What only private contracts and proofs of this crate speak of.
pub mod Codes
pub mod SourceCodes
pub mod Levels
pub mod Marks
pub mod Pieces
pub mod Trees
pub mod Typings
pub mod Packed
