-- Proofs of the claim.
pub mod Laws
