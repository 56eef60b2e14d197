-- Facts that belong to no one function.
mod Candidates
mod Distances
mod Offsets
mod Alike
mod Splits
mod Tally
mod Whole
mod Verdicts
