-- Lemmas for the proofs of this crate's functions and of the readers above it: a line's tests, the loop over the lines, the header,
-- the answer lists. Then the laws.
pub mod Answering
pub mod Headed
pub mod Laws
pub mod Mapped
pub mod Progress
pub mod Require
