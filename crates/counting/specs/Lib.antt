-- What the driver over pairs of runs reads and adds up: cited by inner functions alone.
pub mod TwoEdges
pub mod Runs
pub mod Kernels
pub mod Rows
pub mod Prepared
