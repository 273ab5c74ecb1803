pub mod Slanted
pub mod OnLines
pub mod LinesKept
