-- The laws about what specs/ defines, and the lemmas of the proofs.
pub mod RegulaFalsiKeeps
pub mod RegulaFalsiTraces
pub mod RegulaFalsiWeights
pub mod RegulaFalsiLaws
pub mod RegulaFalsiMarks
