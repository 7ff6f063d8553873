-- How much the opening and a turn of Brent's method add to each tally at the most.
use Rattle.std.specs.Prelude.{Float, Bool, true, false, List, ◌≡◌}
use Rattle.simple_convergency.specs.declared.StopRule.{StopRule}
use Rattle.searching.specs.Bounds.{Within}
use Rattle.searching.proofs.BoundLaws.{within_done, within_stops, within_ruled, within_pulled, within_value, within_offered, within_bracketed, within_narrows}
use Rattle.brent.specs.Brent.{opened, second_at, first_at, opening, arrived, landed, pulled_in, step_with, step_from, turn_from, arrange, pair_of, next_of, completes, keeps_a, pair_after}
use Rattle.brent.specs.declared.Brent.{Brent}
use Rattle.std.proofs.Common.{ap, ◌∙◌}
use Rattle.std.proofs.Math.Path.{refl}
use Rattle.std.specs.Float.Ieee.{lt}
use Rattle.doubles.specs.Doubles.{absolute}
use Rattle.numerical.specs.declared.Progress.{Progress}
use Rattle.numerical.specs.declared.Sample.{Sample}
use Rattle.searching.specs.Programs.{Turned, oracle, play, tallied}
use Rattle.brent.specs.declared.Arranged.{Arranged}

-- two samples are arranged by the sizes u and v of their values
module _ {u v : Float} (p q : Sample) (e : u ≡ absolute p.y) (f : v ≡ absolute q.y) where
  pub first_larger : lt v u ≡ true → ◌≡◌ {A = Arranged} (record { a = p; b = q }) (arrange p q)
  unfolding arrange
  first_larger h = rw (← e, ← f, h) refl

  -- and the state that goes on has them so
  pub moved_larger : {i : Brent} (s : Brent) (flag : Bool) → i ≡ next_of s flag (record { a = p; b = q }) → lt v u ≡ true → i ≡ next_of s flag (arrange p q)
  moved_larger s flag m h = m ∙ ap (next_of s flag) (first_larger h)

-- the code has decided by the signs which end is kept, and made the step to it and the new sample
module _ (cs : List Float) (progress : Progress) {d : Bool} {r : Turned Brent × Progress} (s : Brent) (flag : Bool) (p : Sample) (e : d ≡ keeps_a (pair_of s) p) where
  pub by_kept_a :
      d ≡ true → r ≡ play tallied (oracle cs) (completes s flag (arrange s.a p)) progress →
      r ≡ play tallied (oracle cs) (completes s flag (pair_after (pair_of s) p)) progress
  unfolding pair_after
  by_kept_a h k = rw (← e, h) k

  pub by_kept_b :
      d ≡ false → r ≡ play tallied (oracle cs) (completes s flag (arrange p s.b)) progress →
      r ≡ play tallied (oracle cs) (completes s flag (pair_after (pair_of s) p)) progress
  unfolding pair_after
  by_kept_b h k = rw (← e, h) k

-- the two ends
pub within_opening : (stop : StopRule) (from to : Float) → Within 2 0 0 (opening stop from to)
unfolding opening first_at second_at opened
within_opening stop from to = within_value from (λ p. within_value to (λ q. within_bracketed stop _ _ _))

-- the new sample
pub within_turn : (stop : StopRule) (s : Brent) → Within 1 0 1 (turn_from stop s)
unfolding turn_from step_from step_with pulled_in landed arrived
within_turn stop s =
    within_stops stop _ within_done
    (within_stops stop _ within_done
    (within_stops stop _ within_done
    (within_offered _ (λ x. within_pulled _ _ x (λ y. within_value y (λ p. within_ruled 1 _ (within_narrows _ _)))))))
