-- What only private contracts and proofs of this crate speak of.
pub mod Counting
pub mod Judged
pub mod Sessions
pub mod Printing
pub mod Running
pub mod Viewing
