-- Which records can be written and read back, and what a record keeps of its coefficients. Definitions only.
use Rattle.std.specs.Prelude.{◌^◌, ◌<◌, ◌≡◌, T, length, take, Float}
use Rattle.std.proofs.Math.Bool.{true, false}
use mathlib.Core.List.{List, [], ◌∷◌}
use Rattle.std.specs.Float.Ieee.{binary64, fits}
use Rattle.numerical.specs.Answers.{kind_of, numbers_of}
use Rattle.simple_convergency.specs.Stop.{either_bad, greatest_limit, most_coefficients}
use Rattle.roots.specs.Calls.{starts_of, all_finite}
use Rattle.records.specs.Records.{between, is_kind, padded, holds_both}
use Rattle.records.specs.declared.Record.{Record}

-- doubles: values of the format, as every f64 is
abbrev pub Held : List Float → Type 0
Held [] = Unit {0}
Held (x ∷ rest) = T (fits binary64 x) × Held rest

-- what a record keeps of its coefficients: those that it counts
abbrev pub trimmed : Record → Record
trimmed o = record { kind = o.kind; coefficients = padded (take o.count o.coefficients); count = o.count; method = o.method; tolerances = o.tolerances; limit = o.limit; outcome = o.outcome }

-- what the language gives a record to be: doubles, 16 of them for the coefficients, and numbers of 64 bits
pub record Sound (o : Record) : Type 0 where
  pub kind : o.kind < 2 ^ 64
  pub all : length o.coefficients ≡ most_coefficients
  pub coefficients : Held (take o.count o.coefficients)
  pub starts : Held (starts_of o.method)
  pub value_tolerance : T (fits binary64 o.tolerances.value)
  pub point_tolerance : T (fits binary64 o.tolerances.point)
  pub limit : o.limit < 2 ^ 64
  pub numbers : Held (numbers_of o.outcome.answer)
  pub steps : o.outcome.progress.tally.steps.0 < 2 ^ 64
  pub values : o.outcome.progress.tally.values.0 < 2 ^ 64
  pub derivatives : o.outcome.progress.tally.derivatives.0 < 2 ^ 64

-- each number passes its test, and the kind has room for both tolerances
pub record Right (o : Record) : Type 0 where
  pub kind : between 1 2 o.kind ≡ true
  pub count : between 1 most_coefficients o.count ≡ true
  pub coefficients : all_finite (take o.count o.coefficients) ≡ true
  pub starts : all_finite (starts_of o.method) ≡ true
  pub tolerances : either_bad o.tolerances ≡ false
  pub both : holds_both o.kind o.tolerances ≡ true
  pub limit : between 0 greatest_limit o.limit ≡ true
  pub answer : is_kind (kind_of o.outcome.answer) ≡ true
  pub numbers : all_finite (numbers_of o.outcome.answer) ≡ true
  pub mark : between 0 2 o.outcome.progress.mark ≡ true
