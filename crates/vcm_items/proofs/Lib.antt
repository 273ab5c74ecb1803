pub mod NameLemmas
pub mod Runs
pub mod PostfixKinds
pub mod Truths
