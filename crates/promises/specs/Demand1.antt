-- Demand 1: any input gets an acceptance or a refusal numbered 1 to 9, nothing else; and 1 to 5 exactly when document 01 says.
use Rattle.std.specs.Prelude.{ℕ, ◌≤◌, List, ◌↔◌, ◌≡◌, Float}
use Rattle.numerical.specs.Answers.{refused_at_once}
use Rattle.numerical.specs.declared.Answer.TheVariants.{Refused}
use Rattle.numerical.specs.declared.Outcome.{Outcome}
use Rattle.simple_convergency.specs.declared.Tolerances.{Tolerances}
use Rattle.roots.specs.declared.Method.{Method}
use Rattle.promises.specs.Searches.{Early}

-- what is promised of the outcome of every call
pub record Demand1 (a : List Float) (m : Method) (tolerances : Tolerances) (limit : ℕ) (outcome : Outcome) : Type 0 where
  -- every refusal is numbered 1 to 9
  pub numbered : (n : ℕ) → outcome.answer ≡ Refused n → (1 ≤ n) × (n ≤ 9)
  -- refusals 1 to 5 are given exactly when the first of document 01's five conditions to hold has that number
  pub early_exactly : (n : ℕ) → n ≤ 5 → (outcome.answer ≡ Refused n) ↔ Early a m tolerances limit n
  -- they carry all zero: no value and no derivative was worked out, and the mark is 0
  pub early_zero : (n : ℕ) → Early a m tolerances limit n → outcome ≡ refused_at_once n
