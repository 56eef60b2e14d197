-- One file to a concept.
pub mod Merging
pub mod Filling
pub mod Keys
pub mod Sorting
pub mod OnEdge
