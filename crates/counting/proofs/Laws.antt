-- One file to a concept, as in specs/.
pub mod TwoEdges
pub mod Runs
pub mod Rows
pub mod Each
pub mod AllSets
pub mod Stored
pub mod Kernels
