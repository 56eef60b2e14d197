-- One file to a concept.
pub mod Columns
pub mod Table
pub mod Lines
pub mod Files
pub mod Texts
pub mod Room
pub mod Accepted
