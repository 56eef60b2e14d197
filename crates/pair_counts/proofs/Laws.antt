-- The verdict, the set asked about, and what the answer lists mean.
pub mod Verdict
pub mod Tally
pub mod AskedSet
pub mod Taken
pub mod Entries
pub mod Answered
