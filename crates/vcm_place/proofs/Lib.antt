mod Same
mod Sums
