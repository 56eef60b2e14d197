-- One file to a concept.
pub mod Nearest
pub mod Moving
pub mod OneWay
pub mod Step
pub mod Positions
pub mod Kinds
pub mod Marks
pub mod Six
pub mod OnEdges
pub mod AnsweringCheck
pub mod AnsweringEnds
pub mod Answering
pub mod Claim
