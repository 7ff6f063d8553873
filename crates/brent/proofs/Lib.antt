-- The laws about what specs/ defines, and the lemmas of the proofs.
pub mod BrentLaws
pub mod BrentTurns
pub mod BrentKeeps
pub mod BrentEnds
pub mod BrentTraces
pub mod BrentTraced
pub mod BrentSamples
pub mod BrentRepeats
pub mod BrentRule
