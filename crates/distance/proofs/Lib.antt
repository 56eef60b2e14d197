-- Facts that belong to no one function.
pub mod Laws
mod Lists
mod Ways
mod Chains
mod Nearest
mod Offer
mod Follow
mod Picks
mod Least
mod Keyed
mod Stops
mod Rooms
mod Slots
mod Going
mod Turns
mod Entries
mod Verdicts
mod Tables
mod Short
mod Relaxing
