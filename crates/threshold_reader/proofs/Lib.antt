-- Lemmas for the proofs of this crate's functions, and the laws, which the crates above cite.
pub mod Accepts
pub mod Laws
pub mod ThresholdRows
pub mod ThresholdSteps
pub mod WholeThresholds
