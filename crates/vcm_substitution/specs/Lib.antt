pub mod Substitution
pub mod Sizes
pub mod Kept
pub mod inner
