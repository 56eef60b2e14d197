-- Demand 3 as one promise.
pub mod Claim
pub mod Asked
