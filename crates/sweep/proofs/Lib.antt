-- The laws of cursors, which the claims above cite, and facts that belong to no one function.
pub mod Laws
