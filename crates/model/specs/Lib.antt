-- What a reader must believe, in reading order: one concept to a file, no limit in any but Limits.
-- Proofs of the laws about these definitions stand in proofs/Laws.
pub mod Counting
pub mod Network
pub mod Distance
pub mod Walk
pub mod NodeDistance
pub mod Location
pub mod Events
pub mod PairCount
pub mod Perimeter
pub mod Envelope
pub mod Limits
pub mod Refusal
pub mod Checks
pub mod Answer
pub mod Made
pub mod Cases
