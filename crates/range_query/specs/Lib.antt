-- The range query: each pair by its own metres, counted at the first threshold that admits them.
pub mod Ladder
pub mod Spreading
pub mod Metres
