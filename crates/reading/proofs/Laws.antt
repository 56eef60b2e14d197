-- What a reader accepts no later function refuses: the part that holds of every text.
pub mod Kept
pub mod Answers
