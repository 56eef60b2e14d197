-- What the program holds before it writes.
pub mod Held
