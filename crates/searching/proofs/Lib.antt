-- The laws about what specs/ defines, and the lemmas of the proofs.
pub mod ProgramLaws
pub mod BoundLaws
pub mod RuleLaws
pub mod StepLaws
pub mod LoopLaws
pub mod ReasonLaws
pub mod ExactLaws
pub mod BracketLaws
pub mod Keeps
pub mod EventLaws
