-- Two edges by value, which of their places lie within a threshold of each other, and the totals that the kernels add to.
pub mod Edges
pub mod Offsets
pub mod Within
pub mod Ways
pub mod Totals
