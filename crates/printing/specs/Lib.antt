-- The bytes that are printed.
pub mod Bytes
pub mod Answers
pub mod Writing
