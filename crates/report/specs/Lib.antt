-- The printed report.
pub mod Report
pub mod Parts
