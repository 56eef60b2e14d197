-- The table of observed, least and greatest.
pub mod Table
pub mod Columns
