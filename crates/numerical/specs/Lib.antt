-- What the contracts of `numerical` cite: tallies with the mark, answers by number, the line through two samples, and the middle of an interval.
pub mod Tallies
pub mod Answers
pub mod Chords
pub mod Middle
