-- The laws about what specs/ defines, and the lemmas of the proofs.
pub mod SecantLaws
pub mod SecantKeeps
pub mod SecantTraces
pub mod SecantOrdered
