-- What only private contracts and proofs of this crate speak of.
pub mod Slices
pub mod Counting
pub mod Marks
pub mod Fitting
pub mod Failing
pub mod Refusing
