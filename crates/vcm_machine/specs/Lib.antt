pub mod Running
pub mod Going
pub mod Laws
pub mod RestsAlways
pub mod inner
