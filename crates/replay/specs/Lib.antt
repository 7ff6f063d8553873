-- What the contracts of `replay` cite.
pub mod VerdictTexts
pub mod Courses
-- what is promised of a whole input
pub mod Inputs
