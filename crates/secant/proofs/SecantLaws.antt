-- What the laws of searches give for the secant method: the loop's shape, its counts and its bounds.
use Rattle.std.specs.Prelude.{◌+◌, ◌*◌, ◌≤◌, List, Float}
use Rattle.std.proofs.Common.{arith, mul-one, mul-zero}
use Rattle.std.proofs.Math.Nat.{le_refl}
use Rattle.numerical.specs.Tallies.{fresh}
use Rattle.simple_convergency.specs.Stop.{turns_of}
use Rattle.simple_convergency.specs.declared.StopRule.{StopRule}
use Rattle.searching.specs.Bounds.{Within, More}
use Rattle.searching.proofs.BoundLaws.{within_done, within_stops, within_value, within_offered, within_steps, within_less, within_searches, answer_within}
use Rattle.secant.specs.Secant.{second_at, first_at, opening, arrived, landed, turn_from, secant_program, secant}
use Rattle.secant.specs.declared.Secant.{Secant}

-- two values at the most, and no step
pub within_opening : (stop : StopRule) (first second : Float) → Within 2 0 0 (opening stop first second)
unfolding opening first_at second_at
within_opening stop first second = within_value first (λ p. within_stops stop _ within_done (within_value second (λ q. within_stops stop _ within_done within_done)))

-- one value and one step at the most
pub within_turn : (stop : StopRule) (s : Secant) → Within 1 0 1 (turn_from stop s)
unfolding turn_from landed arrived
within_turn stop s = within_stops stop _ within_done (within_offered _ (λ x. within_stops stop _ within_done (within_value x (λ p. within_stops stop _ within_done (within_steps _)))))

-- at most three of each
pub turn_small : (stop : StopRule) (s : Secant) → Within 3 3 3 (turn_from stop s)
turn_small stop s = within_less (within_turn stop s) (omega arith) (omega arith) (omega arith)

pub small_opening : (stop : StopRule) (first second : Float) → Within 3 3 3 (opening stop first second)
small_opening stop first second = within_less (within_opening stop first second) (omega arith) (omega arith) (omega arith)

module _ (a : List Float) (stop : StopRule) (first second : Float) where
  -- what the law of bounds says of the whole search
  more : More (2 + turns_of stop * 1) (0 + turns_of stop * 0) (0 + turns_of stop * 1) fresh (secant a stop first second).progress
  unfolding secant secant_program
  more = answer_within a (within_searches 2 0 0 1 0 1 (turns_of stop) (within_opening stop first second) (λ r. le_refl (turns_of stop)) (within_turn stop))

  -- "Values at most 2 + m"
  pub secant_values : (secant a stop first second).progress.tally.values.0 ≤ 2 + turns_of stop
  secant_values = let h = more.values in omega (arith, mul-one (turns_of stop))

  -- "Illinois, secant and Brent take no derivatives"
  pub secant_derivatives : (secant a stop first second).progress.tally.derivatives.0 ≤ 0
  secant_derivatives = let h = more.derivatives in omega (arith, mul-zero (turns_of stop))
