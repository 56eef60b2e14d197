-- What the reader of reports promises: its answer and what it leaves in the answer lists. Then what its parts promise.
pub mod Answers
pub mod Steps
