-- What every counting method starts from and ends in; then what the functions that make it keep on the way.
pub mod Counts
pub mod Rows
pub mod Prepared
pub mod RunPairs
pub mod EndTable
pub mod Laying
pub mod Cutting
pub mod Marking
