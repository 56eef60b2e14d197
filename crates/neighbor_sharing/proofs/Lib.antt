-- Facts about what the six cursors count, which belong to no one function.
pub mod Laws
