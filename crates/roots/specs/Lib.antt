-- What the contracts of `roots` cite.
pub mod Methods
pub mod Calls
