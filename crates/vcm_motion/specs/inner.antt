-- What only private contracts and proofs of this crate speak of.
pub mod Stretches
pub mod Sooner
pub mod Boxes
pub mod Listed
pub mod Spans
pub mod Reaching
