-- Facts about what the methods start from; the crates above cite them.
pub mod Laws
