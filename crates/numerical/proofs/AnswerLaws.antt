-- What the proofs of an answer's parts cite: each definition at an equal value.
use Rattle.std.specs.Prelude.{ℕ, List, ◌≡◌, Float}
use Rattle.numerical.specs.Answers.{kind_of, numbers_of, padded}
use Rattle.numerical.specs.declared.Answer.{Answer}

pub by_kind : {r : ℕ} (a : Answer) {b : Answer} → a ≡ b → r ≡ kind_of b → r ≡ kind_of a
by_kind a e k = rw e k

pub by_numbers : {r : List Float} (a : Answer) {b : Answer} → a ≡ b → r ≡ padded (numbers_of b) → r ≡ padded (numbers_of a)
by_numbers a e k = rw e k
