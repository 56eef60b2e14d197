-- What the parts that the readers share promise: an outcome as an answer and as answer lists, and a header.
pub mod Answers
pub mod Header
