-- What the laws of searches give for Newton's method: the loop's shape, its counts and its bounds.
use Rattle.std.specs.Prelude.{◌+◌, ◌*◌, ◌-◌, ◌≤◌, max, Bool, true, false, cond, List, Float}
use Rattle.std.proofs.Common.{arith, mul-one}
use Rattle.numerical.specs.Tallies.{fresh}
use Rattle.simple_convergency.specs.declared.StopRule.{StopRule}
use Rattle.polynom.specs.declared.ValueAndDerivative.{ValueAndDerivative}
use Rattle.searching.specs.Programs.{Turned, ended, next}
use Rattle.searching.specs.Bounds.{Within, More}
use Rattle.searching.proofs.BoundLaws.{within_done, within_test, within_stops, within_both, within_offered, within_steps, within_less, within_searches, answer_within}
use Rattle.newton_raphson.specs.NewtonRaphson.{landed, onward, later_at, turn_from, nudged_to, nudge, first_at, opening, turns_left, newton_program, newton_raphson}
use Rattle.newton_raphson.specs.declared.Spot.{Spot}

-- going on asks for nothing
within_onward : (stop : StopRule) (v : ValueAndDerivative) → Within 0 0 1 (onward stop v)
unfolding onward landed
within_onward stop v = within_offered _ (λ x. within_stops stop _ within_done (within_steps _))

-- each pass takes one value with its derivative, and one step at the most
pub within_turn : (stop : StopRule) (s : Spot) → Within 1 1 1 (turn_from stop s)
unfolding turn_from later_at
within_turn stop s = within_both _ (λ v. within_stops stop _ within_done (within_stops stop _ within_done (within_onward stop v)))

within_nudge : (x : Float) → Within 0 0 1 (nudge x)
unfolding nudge nudged_to
within_nudge x = within_offered _ (λ y. within_steps _)

pub within_opening : (stop : StopRule) (start : Float) → Within 1 1 1 (opening stop start)
unfolding opening first_at
within_opening stop start = within_both _ (λ v. search (within_stops, within_test, within_done, within_nudge, within_onward))

-- at most three of each
pub turn_small : (stop : StopRule) (s : Spot) → Within 3 3 3 (turn_from stop s)
turn_small stop s = within_less (within_turn stop s) (omega arith) (omega arith) (omega arith)

pub small_opening : (stop : StopRule) (start : Float) → Within 3 3 3 (opening stop start)
small_opening stop start = within_less (within_opening stop start) (omega arith) (omega arith) (omega arith)

-- at most max 2 limit - 1 passes are left after the first
pub left_most : (stop : StopRule) (r : Turned Spot) → turns_left stop r ≤ max 2 stop.limit - 1
left_most stop (ended a) = omega arith
left_most stop (next s) = either s.nudged
  where
    either : (b : Bool) → cond b (max 1 (stop.limit - 1)) (stop.limit - 1) ≤ max 2 stop.limit - 1
    either true = omega arith
    either false = omega arith

module _ (a : List Float) (stop : StopRule) (start : Float) where
  -- what the law of bounds says of the whole search
  more : let m = max 2 stop.limit - 1 in More (1 + m * 1) (1 + m * 1) (1 + m * 1) fresh (newton_raphson a stop start).progress
  unfolding newton_raphson newton_program
  more = answer_within a (within_searches 1 1 1 1 1 1 (max 2 stop.limit - 1) (within_opening stop start) (left_most stop) (within_turn stop))

  -- "Values and derivatives each at most the larger of 2 and limit"
  pub newton_raphson_values : (newton_raphson a stop start).progress.tally.values.0 ≤ max 2 stop.limit
  newton_raphson_values = let h = more.values in omega (arith, mul-one (max 2 stop.limit - 1))

  pub newton_raphson_derivatives : (newton_raphson a stop start).progress.tally.derivatives.0 ≤ max 2 stop.limit
  newton_raphson_derivatives = let h = more.derivatives in omega (arith, mul-one (max 2 stop.limit - 1))
