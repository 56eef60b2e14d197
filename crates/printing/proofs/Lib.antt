-- The laws about the definitions of specs/, which the crates above cite.
pub mod Laws
