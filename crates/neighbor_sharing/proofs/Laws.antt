-- One file to a concept.
pub mod Joined
pub mod Stands
pub mod Sharing
pub mod Within
