pub mod Puttings
