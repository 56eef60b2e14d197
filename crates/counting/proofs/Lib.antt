-- What the loops of the driver keep.
pub mod Laws
