pub mod FramedLemmas
mod RowLemmas
mod Roots
