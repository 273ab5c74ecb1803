-- What only private contracts and proofs of this crate speak of.
pub mod Closing
pub mod Growing
pub mod Taking
pub mod Shifting
pub mod Walking
