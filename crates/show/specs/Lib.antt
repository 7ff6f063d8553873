-- What the contracts of `show` cite.
pub mod Streams
-- what proofs cite
pub mod StreamLaws
