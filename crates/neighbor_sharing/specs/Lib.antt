-- What the six cursors of two edges join.
pub mod Stands
pub mod Joined
