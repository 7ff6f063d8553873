-- The bounds on values and derivatives, as one statement over the method.
use Rattle.std.specs.Prelude.{ℕ, ◌≤◌, List, ◌≡◌, Float}
use Rattle.std.proofs.Common.{arith}
use Rattle.simple_convergency.specs.declared.StopRule.{StopRule}
use Rattle.brent.proofs.BrentTurns.{brent_values, brent_derivatives}
use Rattle.regula_falsi.proofs.RegulaFalsiLaws.{regula_falsi_values, regula_falsi_derivatives}
use Rattle.secant.proofs.SecantLaws.{secant_values, secant_derivatives}
use Rattle.newton_raphson.proofs.NewtonRaphsonLaws.{newton_raphson_values, newton_raphson_derivatives}
use Rattle.polynom_search.proofs.PolynomSearchLaws.{polynom_search_values, polynom_search_derivatives}
use Rattle.simple_convergency.specs.declared.Tolerances.{Tolerances}
use Rattle.roots.specs.Calls.{found_by, answer}
use Rattle.roots.specs.declared.Method.{Method}
use Rattle.roots.specs.declared.Method.TheVariants.{Brent, RegulaFalsi, Secant, NewtonRaphson, Polynom}
use Rattle.promises.specs.EarlyLaws.{at_once}
use Rattle.promises.proofs.AnswerLaws.{answer_found}
use Rattle.promises.specs.Counts.{rule_of, most_values, most_derivatives}

values_most : (a : List Float) (stop : StopRule) (m : Method) → (found_by a stop m).progress.tally.values.0 ≤ most_values m stop
values_most a stop (Brent from to) = omega (arith, brent_values a stop from to)
values_most a stop (RegulaFalsi from to) = regula_falsi_values a stop from to
values_most a stop (Secant first second) = secant_values a stop first second
values_most a stop (NewtonRaphson start) = newton_raphson_values a stop start
values_most a stop (Polynom from to) = polynom_search_values a stop from to

derivatives_most : (a : List Float) (stop : StopRule) (m : Method) → (found_by a stop m).progress.tally.derivatives.0 ≤ most_derivatives m stop
derivatives_most a stop (Brent from to) = omega (arith, brent_derivatives a stop from to)
derivatives_most a stop (RegulaFalsi from to) = regula_falsi_derivatives a stop from to
derivatives_most a stop (Secant first second) = secant_derivatives a stop first second
derivatives_most a stop (NewtonRaphson start) = newton_raphson_derivatives a stop start
derivatives_most a stop (Polynom from to) = polynom_search_derivatives a stop from to

module _ (a : List Float) (m : Method) (tolerances : Tolerances) (limit : ℕ) (z : at_once a m tolerances limit ≡ 0) where
  pub values_within : (answer a m tolerances limit).progress.tally.values.0 ≤ most_values m (rule_of tolerances limit)
  values_within = rw (answer_found a m tolerances limit z) (values_most a (rule_of tolerances limit) m)

  pub derivatives_within : (answer a m tolerances limit).progress.tally.derivatives.0 ≤ most_derivatives m (rule_of tolerances limit)
  derivatives_within = rw (answer_found a m tolerances limit z) (derivatives_most a (rule_of tolerances limit) m)
