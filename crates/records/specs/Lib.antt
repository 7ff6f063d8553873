-- What the contracts of `records` cite.
pub mod Records
pub mod Parts
pub mod Drafts
-- what proofs cite
pub mod ReadLaws
pub mod PartLaws
pub mod BackLaws
pub mod PrefixLaws
pub mod ReadingLaws
-- what the promises cite
pub mod RoundLaws
