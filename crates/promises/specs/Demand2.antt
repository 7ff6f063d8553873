-- Demand 2, beside the Rust. That the answer is the definition's is the contract of `search`. Here: beside the definition with the Rust's evaluations, only Brent's count of values is another. It is of any two tolerances; the Rust's own calls have one eps, so they are those where the two are equal.
use Rattle.std.specs.Prelude.{ℕ, ◌+◌, List, ◌≡◌, Float}
use Rattle.numerical.specs.declared.Outcome.{Outcome}
use Rattle.simple_convergency.specs.declared.Tolerances.{Tolerances}
use Rattle.roots.specs.declared.Method.{Method}
use Rattle.promises.specs.Counts.{rule_of, rust_found_by, worked_out_again}

-- what is promised of the outcome of a call that passes 1 to 5, beside that of the Rust's evaluations
pub record Demand2 (a : List Float) (m : Method) (tolerances : Tolerances) (limit : ℕ) (outcome : Outcome) : Type 0 where
  -- the same kind and numbers, or the same refusal
  pub same_answer : outcome.answer ≡ (rust_found_by a (rule_of tolerances limit) m).answer
  -- the same steps, derivatives and mark
  pub same_steps : outcome.progress.tally.steps ≡ (rust_found_by a (rule_of tolerances limit) m).progress.tally.steps
  pub same_derivatives : outcome.progress.tally.derivatives ≡ (rust_found_by a (rule_of tolerances limit) m).progress.tally.derivatives
  pub same_mark : outcome.progress.mark ≡ (rust_found_by a (rule_of tolerances limit) m).progress.mark
  -- the Rust's values are these and, with Brent, one more for each step
  pub rust_values :
      (rust_found_by a (rule_of tolerances limit) m).progress.tally.values.0 ≡ outcome.progress.tally.values.0 + worked_out_again m outcome.progress.tally.steps.0
