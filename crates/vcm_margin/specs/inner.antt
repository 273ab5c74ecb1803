-- What only private contracts and proofs of this crate speak of.
pub mod Kept
pub mod Keeping
pub mod Trails
pub mod Stepped
pub mod Widening
