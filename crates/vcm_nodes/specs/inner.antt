-- What only private contracts and proofs of this crate speak of.
pub mod Codes
pub mod SameLabels
pub mod Judging
pub mod Falls
