-- Facts that belong to no one function.
mod Asking
mod Distances
mod Routes
