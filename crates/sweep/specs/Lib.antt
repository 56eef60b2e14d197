-- The cursors of the sweep (01: marks), and what the public functions promise of them.
pub mod Cursors
pub mod Moving
pub mod Sweeping
pub mod Answers
pub mod Six
pub mod Asked
pub mod OneWay
