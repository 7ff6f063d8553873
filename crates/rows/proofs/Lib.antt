-- The laws about what specs/ defines, and the lemmas of the proofs.
pub mod GroupLaws
pub mod LayoutLaws
pub mod TakeLaws
pub mod PutLaws
pub mod Reasons
