-- What the contracts of `walking` cite.
pub mod Walking
