-- How an answer is told to a caller in another language.
pub mod Told
