pub mod Besides
pub mod Carried
pub mod Exact
pub mod Expressions
pub mod Templates
pub mod inner
