pub mod PageLemmas
pub mod PageViews
