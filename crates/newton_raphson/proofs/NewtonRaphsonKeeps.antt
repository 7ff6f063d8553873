-- Each answer of Newton's method has its reason in the history, which has no mark.
use Prim.Native.Nat.{ℕ, suc, ◌+◌, ◌-◌, max}
use native.Mathlib.Omega.{arith}
use Rattle.std.specs.Prelude.{Bool, List, [], ◌∷◌, ◌≡◌, Float}
use Rattle.std.proofs.Math.Bool.{true, false, cond}
use Rattle.std.proofs.Math.Path.{refl, subst}
use Rattle.std.specs.Float.Ieee.Scale.{finite}
use Rattle.numerical.specs.declared.Answer.{Answer}
use Rattle.simple_convergency.specs.Stop.{flat_at}
use Rattle.simple_convergency.specs.declared.StopRule.{StopRule}
use Rattle.polynom.specs.Polynom.{value_and_derivative, evaluated_both}
use Rattle.polynom.specs.declared.ValueAndDerivative.{ValueAndDerivative}
use Rattle.std.specs.Prelude.{Some, None}
use Rattle.searching.specs.Programs.{found, tested, oracle, Event, noted, Prog, Turned}
use Rattle.searching.specs.Histories.{steps_in, mark_in}
use Rattle.searching.specs.Keeps.{Ends, After}
use Rattle.searching.proofs.Keeps.{branches, ends_done, ends_stops, ends_both, ends_offered, ends_steps, ends_searches}
use Rattle.searching.specs.Reasons.{some_ends, True, Slope, derivative_at, Unmarked, Plain, by_value, by_width, of_flatness, of_derivative, of_candidate}
use Rattle.searching.proofs.ReasonLaws.{answered_both, not_answered_both, plain_on, plain_next, plain_going, plain_limit_lem}
use Rattle.newton_raphson.specs.NewtonRaphson.{landed, onward, later_at, turn_from, nudged_to, nudge, first_at, opening, turns_left, newton_program}
use Rattle.newton_raphson.specs.declared.Spot.{Spot}

-- what is answered for a value and a derivative is what is computed
both_computed : (a : List Float) (x : Float) (v : ValueAndDerivative) → evaluated_both a x ≡ Some v → value_and_derivative a x ≡ v
unfolding evaluated_both
both_computed a x v = go (finite (value_and_derivative a x).value.y) (finite (value_and_derivative a x).derivative)
  where
    go : (b c : Bool) → cond b (cond c (Some (value_and_derivative a x)) None) None ≡ Some v → value_and_derivative a x ≡ v
    go true true e = cc
    go true false e = absurd (let z : ◌≡◌ {A = ℕ} 0 1 = cc in omega arith)
    go false c e = absurd (let z : ◌≡◌ {A = ℕ} 0 1 = cc in omega arith)

module _ (a : List Float) (stop : StopRule) (start : Float) where
  -- the start's derivative is flat, so that the first pass nudges
  abbrev pub flat_start : Bool
  flat_start = flat_at stop (value_and_derivative a start).derivative

  -- the steps are the larger of 2 and the limit where the start is flat, and the larger of 1 and the limit otherwise
  abbrev pub most : ℕ
  most = cond flat_start (max 2 stop.limit) (max 1 stop.limit)

  abbrev pub Post : Answer → List Event → Type 0
  Post = Unmarked a stop most

  abbrev Stands : ℕ → List Event → Type 0
  Stands n h = Plain stop most n h

  -- with n steps left, and the point is finite
  abbrev Inv : ℕ → Spot → List Event → Type 0
  Inv n s h = Stands n h × (finite s.x ≡ true)

  -- the steps left may depend on whether the start was nudged
  abbrev Reaches : (Bool → ℕ) → Prog (Turned Spot) → List Event → Type 0
  Reaches left g h = Ends (oracle a) (After (λ s h. Inv (left s.nudged) s h) Post) g h

  -- ---- a step
  module _ (left : Bool → ℕ) where
    keeps_landed : (x x1 : Float) (h : List Event) → finite x1 ≡ true → Stands (suc (left false)) h → Reaches left (landed stop x x1) h
    unfolding landed some_ends steps_in mark_in
    keeps_landed x x1 h z i =
        ends_stops stop _ (λ e. ends_done (record { reason = by_width z e (plain_going i); unmarked = i.unmarked; not_six = refl }))
        (λ e. ends_steps _ (plain_next (plain_on i refl (rw e refl) refl), z))

    keeps_onward : (v : ValueAndDerivative) (h : List Event) → Stands (suc (left false)) h → Reaches left (onward stop v) h
    unfolding onward some_ends steps_in mark_in
    keeps_onward v h i =
        ends_offered _ _ (λ c. record { reason = of_candidate c (plain_going i); unmarked = i.unmarked; not_six = refl })
        (λ c. keeps_landed _ _ _ c (plain_on i refl (rw c refl) refl))

    keeps_later : (v : ValueAndDerivative) (h : List Event) → True a v.value → Slope a v.derivative → Stands (suc (left false)) h → Reaches left (later_at stop v) h
    unfolding later_at some_ends steps_in mark_in
    keeps_later v h t d i =
        ends_stops stop _ (λ e. ends_done (record { reason = by_value t e (plain_going i); unmarked = i.unmarked; not_six = refl }))
        (λ e. ends_stops stop _ (λ f. ends_done (record { reason = of_flatness d f (plain_going (plain_on i refl (rw e refl) refl)); unmarked = i.unmarked; not_six = refl }))
        (λ f. keeps_onward v _ (plain_on i refl (rw (e, f) refl) refl)))

  keeps_turn : (n : ℕ) (s : Spot) (h : List Event) → Inv (suc n) s h → Reaches (λ nudged. n) (turn_from stop s) h
  unfolding turn_from some_ends steps_in mark_in
  keeps_turn n s h (i, z) =
      ends_both _ (λ e. record { reason = of_derivative z (not_answered_both a _ e) (plain_going i); unmarked = i.unmarked; not_six = refl })
      (λ v e. keeps_later (λ nudged. n) v _ (answered_both a _ z v e).is_true (rw (← both_computed a s.x v e) (derivative_at s.x)) (plain_on i refl (rw z refl) refl))

  -- ---- the opening

  -- the passes left after it
  abbrev left : Bool → ℕ
  left nudged = cond nudged (max 1 (stop.limit - 1)) (stop.limit - 1)

  -- it is the first pass of all
  abbrev Opens : List Event → Type 0
  Opens h = Stands (suc (left flat_start)) h

  keeps_nudge : (x : Float) (h : List Event) → Stands (suc (left true)) h → Reaches left (nudge x) h
  unfolding nudge nudged_to some_ends steps_in mark_in
  keeps_nudge x h i =
      ends_offered _ _ (λ c. record { reason = of_candidate c (plain_going i); unmarked = i.unmarked; not_six = refl })
      (λ c. ends_steps _ (plain_next (plain_on i refl (rw c refl) refl), c))

  keeps_first : (v : ValueAndDerivative) (h : List Event) → True a v.value → value_and_derivative a start ≡ v → Opens h → Reaches left (first_at stop v) h
  unfolding first_at some_ends steps_in mark_in
  keeps_first v h t e i =
      ends_stops stop _ (λ f. ends_done (record { reason = by_value t f (plain_going i); unmarked = i.unmarked; not_six = refl }))
      (λ f.
      let flat : flat_at stop v.derivative ≡ true → Reaches left (nudge v.value.x) (noted (tested (found v.value) false) ∷ h) = λ g. keeps_nudge _ _ (plain_on (known true (rw e g)) refl (rw f refl) refl) in
      let steep : flat_at stop v.derivative ≡ false → Reaches left (onward stop v) (noted (tested (found v.value) false) ∷ h) = λ g. keeps_onward left v _ (plain_on (known false (rw e g)) refl (rw f refl) refl) in
      search (branches, flat, steep))
    where
      known : (b : Bool) → flat_start ≡ b → Stands (suc (left b)) h
      known b s = subst (λ (c : Bool). Stands (suc (left c)) h) s i

  keeps_opening : finite start ≡ true → Reaches left (opening stop start) []
  unfolding opening some_ends steps_in mark_in
  keeps_opening z =
      ends_both _ (λ n. record { reason = of_derivative z (not_answered_both a _ n) (plain_going nothing); unmarked = refl; not_six = refl })
      (λ v n. keeps_first v _ (answered_both a _ z v n).is_true (both_computed a _ v n) (plain_on nothing refl (rw z refl) refl))
    where
      all : (b : Bool) → 0 + suc (left b) ≡ cond b (max 2 stop.limit) (max 1 stop.limit)
      all true = omega arith
      all false = omega arith

      nothing : Opens []
      nothing = record { standing = record { steps = all flat_start; undecided = refl }; unmarked = refl }

  -- every Newton search from a finite point ends with its reason, and unmarked
  pub newton_raphson_ends : finite start ≡ true → Ends (oracle a) Post (newton_program stop start) []
  unfolding newton_program
  newton_raphson_ends z = ends_searches (turns_left stop) (turn_from stop) Inv Post (keeps_opening z) keeps_turn (λ s h i. plain_limit_lem i.0)
