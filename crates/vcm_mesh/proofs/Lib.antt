pub mod Rounding
pub mod Facets
pub mod TextLines
