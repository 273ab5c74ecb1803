pub mod Loading
pub mod Expressions
pub mod Laws
pub mod inner
