-- One file to a concept.
pub mod Places
pub mod Halving
pub mod Reach
pub mod Thresholds
pub mod Verdict
pub mod Edges
pub mod Answers
