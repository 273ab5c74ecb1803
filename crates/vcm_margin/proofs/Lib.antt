mod Bisected
mod Reached
mod Keeping
mod Together
mod Looked
mod Cubes
mod Squeezed
mod Sound
mod Beside
mod Between
mod Controlled
mod Going
mod Widths
pub mod OneMargin
