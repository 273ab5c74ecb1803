pub mod Order
pub mod Walk
pub mod Rules
pub mod Computed
pub mod Samples
pub mod Expansion
pub mod inner
pub mod Laws
