-- Networks of which only a part is lent: what a check of that part speaks of.
pub mod Part
