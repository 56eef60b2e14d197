-- Layout and Stretch are the public promises; Keys is cited by inner functions alone, and Sorting by a law alone.
pub mod Layout
pub mod Stretch
pub mod Sorting
pub mod Keys
