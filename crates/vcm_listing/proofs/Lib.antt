pub mod ListingRead
pub mod ListingLaws
pub mod ReadLaws
pub mod FaultLaws
