-- The number and the values of each answer. Definitions only.
use Rattle.std.specs.Prelude.{ℕ, ◌+◌, List, [], ◌∷◌, ◌++◌, take, Float}
use Rattle.doubles.specs.Doubles.{nought}
use Rattle.numerical.specs.Tallies.{fresh}
use Rattle.numerical.specs.declared.Answer.{Answer}
use Rattle.numerical.specs.declared.Answer.TheVariants.{ByValue, ByWidth, Refused}
use Rattle.numerical.specs.declared.Outcome.{Outcome}
use Rattle.numerical.specs.declared.Progress.{Progress}

-- "0 by value, 1 by width, otherwise 10 plus the refusal"
abbrev pub kind_of : Answer → ℕ
kind_of (ByValue root value) = 0
kind_of (ByWidth root p q) = 1
kind_of (Refused n) = 10 + n

-- "by value, carrying the root and its computed value, or by width, carrying the root and two points"
abbrev pub numbers_of : Answer → List Float
numbers_of (ByValue root value) = root ∷ value ∷ []
numbers_of (ByWidth root p q) = root ∷ p ∷ q ∷ []
numbers_of (Refused n) = []

-- an answer's numbers, and +0.0 up to three
abbrev pub padded : List Float → List Float
padded numbers = take 3 (numbers ++ (nought ∷ nought ∷ nought ∷ []))

-- steps, values, derivatives, mark
abbrev pub counts_of : Progress → List ℕ
counts_of p = p.tally.steps.0 ∷ p.tally.values.0 ∷ p.tally.derivatives.0 ∷ p.mark ∷ []

-- an answer with the tallies and the mark beside it
abbrev pub outcome : Answer × Progress → Outcome
outcome r = record { answer = r.0; progress = r.1 }

-- a refusal before any evaluation carries all zero
abbrev pub refused_at_once : ℕ → Outcome
refused_at_once n = outcome (Refused n, fresh)
