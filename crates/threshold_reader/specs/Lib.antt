-- What the reader of thresholds promises: its answer and what it leaves in the answer list. Then what its parts promise.
pub mod Answers
pub mod Steps
