-- The laws about totals, which the kernels cite.
pub mod Laws
