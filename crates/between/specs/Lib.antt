-- What the contracts of this crate cite besides the definitions of model: the promises first.
pub mod Answers
pub mod Metres
pub mod Rows
pub mod Routes
