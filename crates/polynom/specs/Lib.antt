-- What the contracts of `polynom` cite.
pub mod Polynom
pub mod Terms
