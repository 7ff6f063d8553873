-- The theorems about what specs/Demand2.antt defines.
use Rattle.std.specs.Prelude.{ℕ, List, refl, Float}
use Rattle.std.proofs.Common.{arith}
use Rattle.brent.proofs.BrentRepeats.{rust_repeats}
use Rattle.simple_convergency.specs.declared.Tolerances.{Tolerances}
use Rattle.roots.specs.Calls.{found_by, answer}
use Rattle.roots.specs.declared.Method.{Method}
use Rattle.roots.specs.declared.Method.TheVariants.{Brent, RegulaFalsi, Secant, NewtonRaphson, Polynom}
use Rattle.promises.proofs.EarlyLaws.{passes_at_once}
use Rattle.promises.proofs.AnswerLaws.{answer_found}
use Rattle.promises.specs.Counts.{rule_of}
use Rattle.promises.specs.Searches.{Passes}
use Rattle.promises.specs.Demand2.{Demand2}

module _ (a : List Float) (tolerances : Tolerances) (limit : ℕ) where
  as_found : (m : Method) → Demand2 a m tolerances limit (found_by a (rule_of tolerances limit) m)
  as_found (Brent from to) =
      let e = rust_repeats a (rule_of tolerances limit) from to in
      record { same_answer = rw e refl; same_steps = rw e refl; same_derivatives = rw e refl; same_mark = rw e refl; rust_values = rw e refl }
  as_found (RegulaFalsi from to) = record { same_answer = refl; same_steps = refl; same_derivatives = refl; same_mark = refl; rust_values = omega arith }
  as_found (Secant first second) = record { same_answer = refl; same_steps = refl; same_derivatives = refl; same_mark = refl; rust_values = omega arith }
  as_found (NewtonRaphson start) = record { same_answer = refl; same_steps = refl; same_derivatives = refl; same_mark = refl; rust_values = omega arith }
  as_found (Polynom from to) = record { same_answer = refl; same_steps = refl; same_derivatives = refl; same_mark = refl; rust_values = omega arith }

  pub demand_2 : (m : Method) → Passes a m tolerances limit → Demand2 a m tolerances limit (answer a m tolerances limit)
  demand_2 m p = rw (answer_found a m tolerances limit (passes_at_once a m tolerances limit p)) (as_found m)
