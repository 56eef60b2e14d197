-- Lemmas for the proofs of this crate's functions, and the laws, which the crates above cite.
pub mod Accepts
pub mod And
pub mod ArcLines
pub mod ArcSteps
pub mod BothWays
pub mod Laws
pub mod NetworkRows
pub mod WholeNetwork
