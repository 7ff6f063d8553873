-- Newton's method, step by step as newton_raphson.rs has it. Definitions only.
use Rattle.std.specs.Prelude.{ℕ, ◌-◌, max, true, false, cond, Float, List}
use Rattle.std.specs.Float.{binary64}
use Rattle.std.specs.Float.Ieee.{add}
use Rattle.numerical.specs.declared.Answer.{Answer}
use Rattle.numerical.specs.declared.Answer.TheVariants.{ByWidth}
use Rattle.numerical.specs.declared.Outcome.{Outcome}
use Rattle.simple_convergency.specs.declared.StopRule.{StopRule}
use Rattle.simple_convergency.specs.Stop.{flat_at}
use Rattle.polynom.specs.Polynom.{one}
use Rattle.polynom.specs.Polynom.{newton_point}
use Rattle.polynom.specs.declared.ValueAndDerivative.{ValueAndDerivative}
use Rattle.searching.specs.Programs.{found, converged, flat, Prog, Turned, ended, next, test, stops, answers, refuses, by_value, both_at, offered, steps_to, searches, answer_of}
use Rattle.newton_raphson.specs.declared.Spot.{Spot}

-- ---- a step

-- "converged (x, x1) gives x1 by width with that pair"
unfoldable pub landed : StopRule → Float → Float → Prog (Turned Spot)
landed stop x x1 =
    stops stop (converged x x1)
    (answers (ByWidth x1 x x1))
    (steps_to (record { x = x1; nudged = false }))

-- "Then x1, 9"
unfoldable pub onward : StopRule → ValueAndDerivative → Prog (Turned Spot)
onward stop v = offered (newton_point v) (landed stop v.value.x)

-- "Each pass evaluates value and derivative, tests found, then |derivative| < the value tolerance .. later it is 7"
unfoldable pub later_at : StopRule → ValueAndDerivative → Prog (Turned Spot)
later_at stop v =
    stops stop (found v.value)
    (by_value v.value)
    (stops stop (flat v.derivative)
    (refuses 7)
    (onward stop v))

unfoldable pub turn_from : StopRule → Spot → Prog (Turned Spot)
turn_from stop s = both_at s.x (later_at stop)

-- ---- the opening is the first pass, which may nudge

unfoldable pub nudged_to : Float → Prog (Turned Spot)
nudged_to x = steps_to (record { x = x; nudged = true })

-- "At iter 0 that adds 1 to x, adds 1 to iter and skips the limit test"; "A nudged x that isn't finite is 9"
unfoldable pub nudge : Float → Prog (Turned Spot)
nudge x = offered (add binary64 x one) nudged_to

unfoldable pub first_at : StopRule → ValueAndDerivative → Prog (Turned Spot)
first_at stop v =
    stops stop (found v.value)
    (by_value v.value)
    (test (flat_at stop v.derivative)
    (nudge v.value.x)
    (onward stop v))

unfoldable pub opening : StopRule → Float → Prog (Turned Spot)
opening stop start = both_at start (first_at stop)

-- the passes left after the first: the limit is tested after each step but the nudge, so one more is made there
abbrev pub turns_left : StopRule → Turned Spot → ℕ
turns_left stop (ended a) = 0
turns_left stop (next s) = cond s.nudged (max 1 (stop.limit - 1)) (stop.limit - 1)

-- ---- the search

unfoldable pub newton_program : StopRule → Float → Prog Answer
newton_program stop start = searches (opening stop start) (turns_left stop) (turn_from stop)

unfoldable pub newton_raphson : List Float → StopRule → Float → Outcome
newton_raphson a stop start = answer_of a (newton_program stop start)
