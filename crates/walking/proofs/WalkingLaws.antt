-- The laws of searches at work: the loop's shape, the bound, the count, and a walk that computes.
use Rattle.std.specs.Prelude.{◌≤◌, List, [], ◌∷◌, ◌≡◌, refl, Float}
use Rattle.std.proofs.Common.{arith}
use Rattle.std.proofs.Math.Nat.{mul-one, le_refl}
use Rattle.std.specs.Float.{binary64}
use Rattle.std.specs.Float.Ieee.{of_bits, add, mul, lt, neg}
use Rattle.doubles.specs.Doubles.{absolute}
use Rattle.numerical.specs.declared.Answer.TheVariants.{ByValue}
use Rattle.simple_convergency.specs.Stop.{turns_of, found_at, one_eps}
use Rattle.simple_convergency.specs.declared.StopRule.{StopRule}
use Rattle.polynom.specs.Polynom.{value, sums, evaluated}
use Rattle.searching.specs.Programs.{next, searches, oracle, answer_of, stops, test, value_at, sampled, offered, steps_to, bind, run, play}
use Rattle.searching.specs.Histories.{history}
use Rattle.searching.proofs.ProgramLaws.{tallies_are_counts}
use Rattle.searching.specs.Histories.{counted}
use Rattle.searching.specs.Bounds.{Within}
use Rattle.searching.proofs.BoundLaws.{within_done, within_stops, within_value, within_offered, within_steps, within_less, within_searches, answer_within}
use Rattle.walking.specs.Walking.{seen_at, turn_from, opening, walking}

pub within_turn : (stop : StopRule) (x : Float) → Within 1 0 1 (turn_from stop x)
unfolding turn_from seen_at
within_turn stop x = within_value x (λ p. within_stops stop _ within_done (within_offered _ (λ y. within_steps y)))

-- at most three of each
pub turn_small : (stop : StopRule) (x : Float) → Within 3 3 3 (turn_from stop x)
turn_small stop x = within_less (within_turn stop x) (omega arith) (omega arith) (omega arith)

module _ (a : List Float) (stop : StopRule) (x : Float) where
  -- the values reported are those of the history
  pub walk_counts : (walking a stop x).progress ≡ counted (history (oracle a) (searches (opening x) (λ r. turns_of stop) (turn_from stop)))
  unfolding walking
  walk_counts = tallies_are_counts a _

  -- and there are at most as many as turns
  pub walk_bound : (walking a stop x).progress.tally.values.0 ≤ turns_of stop
  unfolding walking
  walk_bound = let h = (answer_within a (within_searches 0 0 0 1 0 1 (turns_of stop) (within_done {A = _} {a = next x}) (λ r. le_refl (turns_of stop)) (within_turn stop))).values in omega (arith, mul-one (turns_of stop))

-- x^2 - 4 from 0 by steps of 1: the third value is found
pub walk_computes :
    walking (of_bits binary64 0 ∷ of_bits binary64 0xc010_0000_0000_0000 ∷ []) (record { tolerances = one_eps (of_bits binary64 0x3f50_0000_0000_0000); limit = 9 }) (of_bits binary64 0)
    ≡ record {
      answer = ByValue (of_bits binary64 0x4000_0000_0000_0000) (of_bits binary64 0);
      progress = record { tally = record { steps = record { 0 = 2 }; values = record { 0 = 3 }; derivatives = record { 0 = 0 } }; mark = 0 };
    }
unfolding walking answer_of searches bind run play turn_from seen_at value_at sampled stops test offered steps_to found_at absolute evaluated value sums of_bits add mul lt neg
walk_computes = refl
