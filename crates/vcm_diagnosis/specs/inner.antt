-- What only private contracts and proofs of this crate speak of.
pub mod Refused
