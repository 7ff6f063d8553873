-- The language of searches: programs that ask for values and note what they do, and how they are played. The laws stand in proofs/.
pub mod Programs
pub mod Rules
pub mod Histories
pub mod Bounds
pub mod Loops
pub mod Turns
-- what is promised of every history, and the words of the rules by which a method keeps it
pub mod Reasons
pub mod ReasonLaws
pub mod Brackets
pub mod Keeps
pub mod Events
pub mod EventLaws
