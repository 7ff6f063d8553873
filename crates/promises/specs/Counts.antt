-- The words of the promises that the worked cases need too: a call's stop rule, the bounds, and what the Rust evaluates besides. Definitions only, and no word of histories.
use Rattle.std.specs.Prelude.{ℕ, ◌+◌, ◌*◌, max, List, Float}
use Rattle.numerical.specs.declared.Outcome.{Outcome}
use Rattle.simple_convergency.specs.Stop.{turns_of}
use Rattle.simple_convergency.specs.declared.StopRule.{StopRule}
use Rattle.simple_convergency.specs.declared.Tolerances.{Tolerances}
use Rattle.brent.specs.BrentRust.{rust_brent}
use Rattle.roots.specs.Calls.{found_by}
use Rattle.roots.specs.declared.Method.{Method}
use Rattle.roots.specs.declared.Method.TheVariants.{Brent, RegulaFalsi, Secant, NewtonRaphson, Polynom}

-- the stop rule of a call
abbrev pub rule_of : Tolerances → ℕ → StopRule
rule_of tolerances limit = record { tolerances = tolerances; limit = limit }

-- ---- the bounds

-- "Values at most .." and "derivatives at most ..", with m the larger of 1 and limit
abbrev pub most_values : Method → StopRule → ℕ
most_values (Brent from to) stop = 2 + turns_of stop
most_values (RegulaFalsi from to) stop = 2 + turns_of stop
most_values (Secant first second) stop = 2 + turns_of stop
most_values (NewtonRaphson start) stop = max 2 stop.limit
most_values (Polynom from to) stop = 2 + 2 * turns_of stop

abbrev pub most_derivatives : Method → StopRule → ℕ
most_derivatives (Brent from to) stop = 0
most_derivatives (RegulaFalsi from to) stop = 0
most_derivatives (Secant first second) stop = 0
most_derivatives (NewtonRaphson start) stop = max 2 stop.limit
most_derivatives (Polynom from to) stop = turns_of stop

-- ---- the Rust's evaluations

-- the Rust's steps and evaluations, with document 01's additions: Brent evaluates the kept end again in each step; the others are taken to evaluate as they do here
abbrev pub rust_found_by : List Float → StopRule → Method → Outcome
rust_found_by a stop (Brent from to) = rust_brent a stop from to
rust_found_by a stop (RegulaFalsi from to) = found_by a stop (RegulaFalsi from to)
rust_found_by a stop (Secant first second) = found_by a stop (Secant first second)
rust_found_by a stop (NewtonRaphson start) = found_by a stop (NewtonRaphson start)
rust_found_by a stop (Polynom from to) = found_by a stop (Polynom from to)

-- the values that the Rust works out again in so many steps
abbrev pub worked_out_again : Method → ℕ → ℕ
worked_out_again (Brent from to) steps = steps
worked_out_again (RegulaFalsi from to) steps = 0
worked_out_again (Secant first second) steps = 0
worked_out_again (NewtonRaphson start) steps = 0
worked_out_again (Polynom from to) steps = 0
