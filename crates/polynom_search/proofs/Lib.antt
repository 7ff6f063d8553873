-- The laws about what specs/ defines, and the lemmas of the proofs.
pub mod PolynomSearchLaws
pub mod PolynomSearchKeeps
pub mod PolynomSearchTraces
pub mod TurnLaws
