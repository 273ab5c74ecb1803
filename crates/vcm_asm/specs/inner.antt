-- What only private contracts and proofs of this crate speak of.
pub mod Once
pub mod Depth
pub mod Spelled
pub mod Targets
