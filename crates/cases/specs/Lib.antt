-- What the lists of a case are.
pub mod Lists
