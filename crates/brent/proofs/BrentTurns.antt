-- What a turn of Brent's method adds at the most, for the loop of turns, and the bounds of its tallies.
use Rattle.std.specs.Prelude.{◌+◌, ◌*◌, ◌≤◌, List, ◌≡◌, Float}
use Rattle.std.proofs.Common.{arith}
use Rattle.std.proofs.Math.Nat.{le_refl}
use Rattle.numerical.specs.Tallies.{fresh}
use Rattle.simple_convergency.specs.Stop.{turns_of}
use Rattle.simple_convergency.specs.declared.StopRule.{StopRule}
use Rattle.searching.specs.Bounds.{More, Within}
use Rattle.searching.proofs.BoundLaws.{within_less, within_searches, answer_within}
use Rattle.brent.specs.Brent.{opening, turn_from, brent_program, brent}
use Rattle.brent.specs.declared.Brent.{Brent}
use Rattle.brent.proofs.BrentLaws.{within_opening, within_turn}

-- at most three of each
pub turn_small : (stop : StopRule) (s : Brent) → Within 3 3 3 (turn_from stop s)
turn_small stop s = within_less (within_turn stop s) (omega arith) (omega arith) (omega arith)

pub small_opening : (stop : StopRule) (from to : Float) → Within 3 3 3 (opening stop from to)
small_opening stop from to = within_less (within_opening stop from to) (omega arith) (omega arith) (omega arith)

module _ (a : List Float) (stop : StopRule) (from to : Float) where
  most : More (2 + turns_of stop * 1) (0 + turns_of stop * 0) (0 + turns_of stop * 1) fresh (brent a stop from to).progress
  unfolding brent brent_program
  most = answer_within a (within_searches 2 0 0 1 0 1 (turns_of stop) (within_opening stop from to) (λ r. le_refl (turns_of stop)) (within_turn stop))

  -- "Values at most 2 + m"
  pub brent_values : (brent a stop from to).progress.tally.values.0 ≤ 2 + turns_of stop
  brent_values = let h = most.values in omega arith

  -- "Illinois, secant and Brent take no derivatives"
  pub brent_derivatives : (brent a stop from to).progress.tally.derivatives.0 ≡ 0
  brent_derivatives = let h = most.derivatives in omega arith
