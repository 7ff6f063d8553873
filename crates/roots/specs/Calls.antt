-- The call that a customer makes: refusals 1 to 5 in that order, before any evaluation, and then the method. Definitions only.
use Rattle.std.specs.Prelude.{ℕ, Bool, true, false, cond, List, [], ◌∷◌, ◌++◌, eqb, ltb, length, take, Float, Result, Ok, Err}
use Rattle.std.specs.Float.Ieee.Scale.{finite}
use Rattle.doubles.specs.Doubles.{nought}
use Rattle.numerical.specs.Answers.{refused_at_once}
use Rattle.numerical.specs.declared.Outcome.{Outcome}
use Rattle.simple_convergency.specs.Stop.{most_coefficients, bad_rule_number, checked_of}
use Rattle.simple_convergency.specs.declared.StopRule.{StopRule}
use Rattle.simple_convergency.specs.declared.Tolerances.{Tolerances}
use Rattle.simple_convergency.specs.declared.BadRule.{BadRule}
use Rattle.brent.specs.Brent.{brent}
use Rattle.regula_falsi.specs.RegulaFalsi.{regula_falsi}
use Rattle.secant.specs.Secant.{secant}
use Rattle.newton_raphson.specs.NewtonRaphson.{newton_raphson}
use Rattle.polynom_search.specs.PolynomSearch.{polynom_search}
use Rattle.roots.specs.declared.BadCall.{BadCall}
use Rattle.roots.specs.declared.BadCall.TheVariants.{Count, Coefficients, Starts, Rule}
use Rattle.roots.specs.declared.Method.{Method}
use Rattle.roots.specs.declared.Method.TheVariants.{Brent, RegulaFalsi, Secant, NewtonRaphson, Polynom}

-- "coefficient count is 0 or above 16"
unfoldable pub bad_count : ℕ → Bool
bad_count n = cond (eqb n 0) true (ltb most_coefficients n)

unfoldable pub all_finite : List Float → Bool
all_finite [] = true
all_finite (x ∷ rest) = cond (finite x) (all_finite rest) false

abbrev pub starts_of : Method → List Float
starts_of (Brent from to) = from ∷ to ∷ []
starts_of (RegulaFalsi from to) = from ∷ to ∷ []
starts_of (Secant first second) = first ∷ second ∷ []
starts_of (NewtonRaphson start) = start ∷ []
starts_of (Polynom from to) = from ∷ to ∷ []

-- the starts, and +0.0 up to two
abbrev pub two_starts : Method → List Float
two_starts m = take 2 (starts_of m ++ (nought ∷ nought ∷ []))

-- the method's own search, for a call that 1 to 5 let pass
abbrev pub found_by : List Float → StopRule → Method → Outcome
found_by a stop (Brent from to) = brent a stop from to
found_by a stop (RegulaFalsi from to) = regula_falsi a stop from to
found_by a stop (Secant first second) = secant a stop first second
found_by a stop (NewtonRaphson start) = newton_raphson a stop start
found_by a stop (Polynom from to) = polynom_search a stop from to

-- 4: a tolerance "isn't finite or is below 2^-300"; 5: "limit is above 400"
abbrev pub found_under : List Float → Method → Result StopRule BadRule → Outcome
found_under a m (Ok stop) = found_by a stop m
found_under a m (Err why) = refused_at_once (bad_rule_number why)

-- "1 to 5 are checked in that order, before any evaluation"
unfoldable pub answer : List Float → Method → Tolerances → ℕ → Outcome
answer a m tolerances limit =
    cond (bad_count (length a)) (refused_at_once 1)
    (cond (all_finite a)
    (cond (all_finite (starts_of m))
    (found_under a m (checked_of tolerances limit))
    (refused_at_once 3))
    (refused_at_once 2))

-- ---- the same refusals, by what is wrong with the call

abbrev pub bad_call_number : BadCall → ℕ
bad_call_number Count = 1
bad_call_number Coefficients = 2
bad_call_number Starts = 3
bad_call_number (Rule why) = bad_rule_number why

-- what a call that was checked is answered
abbrev pub answered : List Float → Method → Result StopRule BadCall → Outcome
answered a m (Ok stop) = found_by a stop m
answered a m (Err why) = refused_at_once (bad_call_number why)
