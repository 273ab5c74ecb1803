pub mod Sums
pub mod Missing
pub mod Inside
pub mod Spans
