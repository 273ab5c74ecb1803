-- What only private contracts and proofs of this crate speak of.
pub mod Shares
pub mod Standing
