-- Laws of the ladder, of what is looked up in it, and of the pairs.
pub mod Cells
pub mod Filling
pub mod Ladder
pub mod Lookup
pub mod Own
pub mod Pairs
pub mod Parted
pub mod Placing
pub mod Within
