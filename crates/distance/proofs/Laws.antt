-- What a caller may conclude from a promise of this crate.
pub mod Rows
