-- What the contracts of this crate cite besides the definitions of model: the promises first, then what the search keeps.
pub mod Answers
pub mod Arcs
pub mod Keys
pub mod Passes
pub mod Search
pub mod Table
