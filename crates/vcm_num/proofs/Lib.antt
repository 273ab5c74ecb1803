pub mod Reading
pub mod PointLemmas
pub mod DirectionLemmas
pub mod Ring
pub mod KnownWrites
pub mod LineFeeds
pub mod FirstLine
pub mod WholeLines
