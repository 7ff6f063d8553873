-- What the contracts of `playback` cite.
pub mod Playback
-- what proofs cite
pub mod AheadLaws
pub mod PlaybackLaws
