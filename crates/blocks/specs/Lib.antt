-- What the contracts of `blocks` cite.
pub mod Blocks
