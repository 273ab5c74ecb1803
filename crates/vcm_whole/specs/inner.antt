-- What only private contracts and proofs speak of.
pub mod Ending
pub mod Memory
