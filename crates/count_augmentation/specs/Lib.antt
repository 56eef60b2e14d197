-- The stored numbers of count augmentation, the promise of the function that makes them for all events, and what is looked up of them;
-- then what inner functions keep.
pub mod Augmented
pub mod Storing
pub mod LookUp
pub mod Thresholds
pub mod Events
