-- The laws about what specs/ defines, and the lemmas of the proofs.
pub mod CourseLaws
