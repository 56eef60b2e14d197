-- Laws of the sizes of lines, and of bytes that are put one behind the other.
pub mod Chains
pub mod Rows
pub mod Sizes
pub mod Verdict
pub mod Writing
