-- The laws of searches at work: the loop's shape, the bounds, and the count.
use Rattle.std.specs.Prelude.{ℕ, ◌+◌, ◌*◌, ◌≤◌, List, Float}
use Rattle.std.proofs.Common.{arith}
use Rattle.std.proofs.Math.Nat.{le_refl}
use Rattle.numerical.specs.Tallies.{fresh}
use Rattle.numerical.specs.declared.Interval.{Interval}
use Rattle.numerical.specs.declared.Sample.{Sample}
use Rattle.simple_convergency.specs.Stop.{turns_of}
use Rattle.simple_convergency.specs.declared.StopRule.{StopRule}
use Rattle.searching.specs.Programs.{rising}
use Rattle.searching.specs.Bounds.{Within, More}
use Rattle.searching.proofs.BoundLaws.{within_done, within_test, within_stops, within_ruled, within_pulled, within_value, within_both, within_offered, within_bracketed, within_narrows, within_less, within_searches, answer_within}
use Rattle.polynom_search.specs.PolynomSearch.{second_at, first_at, ordered, opening, chosen, closer, at_middle, step_at, width_at, pulled_in, at_middle_of, turn_from, polynom_program, polynom_search}

pub within_opening : (stop : StopRule) (a b : Float) → Within 2 0 0 (opening stop a b)
unfolding opening rising ordered first_at second_at
within_opening stop a b = within_test _ (both b a) (both a b)
  where
    both : (x y : Float) → Within 2 0 0 (ordered stop x y)
    both x y = within_value x (λ p. within_value y (λ q. within_bracketed stop p q _))

within_chosen : {v d : ℕ} (i : Interval) (p : Sample) → Within v d 1 (chosen i p)
unfolding chosen
within_chosen i p = within_ruled _ _ (within_narrows _ _)

within_step : (i : Interval) (x : Float) → Within 2 1 1 (step_at i x)
unfolding step_at at_middle closer
within_step i x =
    within_both x (λ v. within_test _ (within_value _ (λ p. within_test _ (within_chosen i p) (within_chosen i v.value))) (within_chosen i v.value))

pub within_turn : (stop : StopRule) (i : Interval) → Within 2 1 1 (turn_from stop i)
unfolding turn_from at_middle_of pulled_in width_at
within_turn stop i =
    within_stops stop _ within_done
    (within_stops stop _ within_done
    (within_stops stop _
    (within_offered _ (λ x. within_pulled _ _ x (λ y. within_done)))
    (within_offered _ (λ x. within_pulled _ _ x (within_step i)))))

-- at most three of each
pub turn_small : (stop : StopRule) (i : Interval) → Within 3 3 3 (turn_from stop i)
turn_small stop i = within_less (within_turn stop i) (omega arith) (omega arith) (omega arith)

pub small_opening : (stop : StopRule) (a b : Float) → Within 3 3 3 (opening stop a b)
small_opening stop a b = within_less (within_opening stop a b) (omega arith) (omega arith) (omega arith)

module _ (cs : List Float) (stop : StopRule) (a b : Float) where
  polynom_search_more : More (2 + turns_of stop * 2) (0 + turns_of stop * 1) (0 + turns_of stop * 1) fresh (polynom_search cs stop a b).progress
  unfolding polynom_search polynom_program
  polynom_search_more =
      answer_within cs (within_searches 2 0 0 2 1 1 (turns_of stop) (within_opening stop a b) (λ r. le_refl (turns_of stop)) (within_turn stop))

  -- "Values at most 2 + 2m, derivatives at most m"
  pub polynom_search_values : (polynom_search cs stop a b).progress.tally.values.0 ≤ 2 + 2 * turns_of stop
  polynom_search_values = let h = polynom_search_more.values in omega arith

  pub polynom_search_derivatives : (polynom_search cs stop a b).progress.tally.derivatives.0 ≤ turns_of stop
  polynom_search_derivatives = let h = polynom_search_more.derivatives in omega arith
