-- One file to a concept.
pub mod Spans
pub mod Columns
pub mod Counted
pub mod Answered
