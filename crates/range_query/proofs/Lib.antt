-- Proofs of the range query.
pub mod Laws
