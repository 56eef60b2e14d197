-- One file to a concept, as in specs/.
pub mod Totals
pub mod Ways
pub mod Arrival
