-- The laws about what specs/ defines, and the lemmas of the proofs.
pub mod NewtonRaphsonLaws
pub mod NewtonRaphsonKeeps
pub mod NewtonRaphsonTraces
pub mod NudgeLaws
