mod Counted
mod Unhidden
