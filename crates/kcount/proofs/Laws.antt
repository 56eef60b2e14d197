-- One file to a concept.
pub mod Front
pub mod Held
pub mod Written
