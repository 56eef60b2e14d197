-- What the contracts of this crate cite besides the definitions of model: the promise first, then how the count is made.
pub mod Answers
pub mod Reach
pub mod Sight
pub mod Counts
