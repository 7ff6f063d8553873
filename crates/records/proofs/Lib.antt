-- The laws about what specs/ defines, and the lemmas of the proofs.
pub mod ReadLaws
pub mod PartLaws
pub mod WriteLaws
pub mod RoundLaws
pub mod BackLaws
pub mod PrefixLaws
pub mod ReadingLaws
