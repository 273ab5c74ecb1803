-- What only private contracts and proofs of this crate speak of.
pub mod Cuts
pub mod Told
pub mod Drawn
pub mod Shown
