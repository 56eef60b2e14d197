-- Facts about the printed report.
pub mod Laws
