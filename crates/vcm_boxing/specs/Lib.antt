pub mod Ranges
pub mod Facets
