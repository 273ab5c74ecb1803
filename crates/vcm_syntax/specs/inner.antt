-- What only private contracts of this crate speak of.
pub mod Steps
