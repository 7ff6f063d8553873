-- The two added rules: what each branch of the code leaves gives what the rule says, and no rule counts anything.
use Rattle.std.specs.Prelude.{ℕ, ◌≤◌, Bool, true, false, not, ◌≡◌, Float}
use Rattle.std.specs.Bool.{beq}
use Rattle.std.proofs.Math.Path.{refl}
use Rattle.std.proofs.Common.{◌∙◌, ap, sym}
use Rattle.doubles.specs.Doubles.{same_sign, outside, pulled}
use Rattle.doubles.proofs.Pairs.{pulled_unmoved}
use Rattle.numerical.specs.Tallies.{ruled_of, mark_after, Room}
use Rattle.numerical.proofs.TallyLaws.{room_ruled}
use Rattle.numerical.specs.declared.Progress.{Progress}
use Rattle.numerical.specs.declared.Sample.{Sample}
use Rattle.searching.specs.Programs.{differ, product_departs}
use Rattle.searching.specs.Rules.{placed_in, alike_by}
use Rattle.searching.specs.declared.Placed.{Placed}
use Rattle.searching.specs.declared.Decided.{Decided}

-- ---- rule 2

module _ (u v x : Float) (p : Progress) {f : Bool} (e : f ≡ outside u v x) where
  -- the point lies in the pair
  pub placed_inside : f ≡ false → ◌≡◌ {A = Placed} (record { x = x; progress = p }) (placed_in u v x p)
  unfolding mark_after
  placed_inside h = rw (← e, h, pulled_unmoved u v x (sym e ∙ h)) refl

  -- the point lies outside, and was pulled and marked
  pub placed_outside : {y : Float} {q : Progress} → f ≡ true → y ≡ pulled u v x → q ≡ ruled_of 2 true p → ◌≡◌ {A = Placed} (record { x = y; progress = q }) (placed_in u v x p)
  placed_outside h y q = rw (← e, h, y, q) refl

-- ---- rule 1

-- two tests that are not equal differ
pub unequal_differ : (x y : Bool) → not (beq x y) ≡ differ x y
unequal_differ true true = refl
unequal_differ true false = refl
unequal_differ false true = refl
unequal_differ false false = refl

-- what was decided is what the signs say
pub decided_signs : {w : Decided} {f : Bool} (a b : Sample) (p : Progress) → w ≡ alike_by a b p → w.decision ≡ f → same_sign a.y b.y ≡ f
decided_signs a b p e h = sym (ap (λ (w : Decided). w.decision) e) ∙ h

-- ---- room that is left after a rule

module _ {j k : ℕ} {p : Progress} (r : Room j p) where
  pub room_placed : {w : Placed} (u v x : Float) → k ≤ j → w ≡ placed_in u v x p → Room k w.progress
  room_placed u v x h e = room_ruled r 2 (outside u v x) h (ap (λ (w : Placed). w.progress) e)

  pub room_alike : {w : Decided} (a b : Sample) → k ≤ j → w ≡ alike_by a b p → Room k w.progress
  room_alike a b h e = room_ruled r 1 (product_departs a b) h (ap (λ (w : Decided). w.progress) e)

-- for `search`, with the ruleset `room`
pub ruleset rules_room = (room_placed, room_alike)
