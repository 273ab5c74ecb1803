-- What only private contracts and proofs of this crate speak of.
pub mod Expanding
pub mod Reading
pub mod Staying
pub mod Suiting
