mod Cuts
mod Turning
mod Same
mod Joins
mod Numbers
