-- Each answer of the secant method has its reason in the history, which has no mark.
use Rattle.std.specs.Prelude.{ℕ, suc, true, ◌≡◌, Float}
use Rattle.std.proofs.Common.{arith}
use mathlib.Core.List.{List, []}
use Rattle.std.proofs.Math.Path.{refl}
use Rattle.std.specs.Float.Ieee.Scale.{finite}
use Rattle.numerical.specs.declared.Answer.{Answer}
use Rattle.numerical.specs.declared.Sample.{Sample}
use Rattle.simple_convergency.specs.Stop.{turns_of}
use Rattle.simple_convergency.specs.declared.StopRule.{StopRule}
use Rattle.searching.specs.Programs.{oracle, Event, Prog, Turned}
use Rattle.searching.specs.Histories.{steps_in, mark_in}
use Rattle.searching.specs.Keeps.{Ends, After}
use Rattle.searching.proofs.Keeps.{ends_done, ends_stops, ends_value, ends_offered, ends_steps, ends_searches}
use Rattle.searching.specs.Reasons.{some_ends, True, difference_of, Going, Unmarked, Plain, by_value, by_width, of_flatness, of_value, of_candidate}
use Rattle.searching.proofs.ReasonLaws.{answered, not_answered, plain_on, plain_next, plain_going, plain_first, plain_limit_lem}
use Rattle.secant.specs.Secant.{second_at, first_at, opening, arrived, landed, turn_from, secant_program}
use Rattle.secant.specs.declared.Secant.{Secant}

module _ (a : List Float) (stop : StopRule) where
  abbrev pub Post : Answer → List Event → Type 0
  Post = Unmarked a stop (turns_of stop)

  abbrev Stands : ℕ → List Event → Type 0
  Stands n h = Plain stop (turns_of stop) n h

  -- with n steps left, and the two last samples are true
  abbrev Inv : ℕ → Secant → List Event → Type 0
  Inv n s h = Stands n h × True a s.first × True a s.second

  abbrev Reaches : ℕ → Prog (Turned Secant) → List Event → Type 0
  Reaches n g h = Ends (oracle a) (After (Inv n) Post) g h

  -- ---- the opening, before which the run goes on
  abbrev Opens : List Event → Type 0
  Opens = Stands (turns_of stop)

  open_going : {h : List Event} → Opens h → Going stop (turns_of stop) h
  open_going i = plain_first (omega arith) i

  keeps_second : (p q : Sample) (h : List Event) → True a p → True a q → Opens h → Reaches (turns_of stop) (second_at stop p q) h
  unfolding second_at some_ends steps_in mark_in
  keeps_second p q h t u i = ends_stops stop _ (λ e. ends_done (record { reason = by_value u e (open_going i); unmarked = i.unmarked; not_six = refl })) (λ e. ends_done (plain_on i refl (rw e refl) refl, t, u))

  keeps_first : (x : Float) (p : Sample) (h : List Event) → finite x ≡ true → True a p → Opens h → Reaches (turns_of stop) (first_at stop x p) h
  unfolding first_at some_ends steps_in mark_in
  keeps_first x p h z t i =
      ends_stops stop _ (λ e. ends_done (record { reason = by_value t e (open_going i); unmarked = i.unmarked; not_six = refl }))
      (λ e. ends_value _ (λ n. record { reason = of_value z (not_answered a _ n) (open_going (plain_on i refl (rw e refl) refl)); unmarked = i.unmarked; not_six = refl })
      (λ q n. keeps_second p q _ t (answered a _ z q n).is_true (plain_on i refl (rw (z, e) refl) refl)))

  keeps_opening : (x y : Float) → finite x ≡ true → finite y ≡ true → Reaches (turns_of stop) (opening stop x y) []
  unfolding opening some_ends steps_in mark_in
  keeps_opening x y z w =
      ends_value _ (λ n. record { reason = of_value z (not_answered a _ n) (open_going nothing); unmarked = refl; not_six = refl })
      (λ p n. keeps_first y p _ w (answered a _ z p n).is_true (plain_on nothing refl (rw z refl) refl))
    where
      nothing : Opens []
      nothing = record { standing = record { steps = omega arith; undecided = refl }; unmarked = refl }

  -- ---- a step
  module _ (n : ℕ) (s : Secant) where
    keeps_arrived : (p : Sample) (h : List Event) → True a p → Inv (suc n) s h → Reaches n (arrived stop s p) h
    unfolding arrived some_ends steps_in mark_in
    keeps_arrived p h t i =
        ends_stops stop _ (λ e. ends_done (record { reason = by_value t e (plain_going i.0); unmarked = i.0.unmarked; not_six = refl }))
        (λ e. ends_steps _ (plain_next (plain_on i.0 refl (rw e refl) refl), i.2, t))

    keeps_landed : (x : Float) (h : List Event) → finite x ≡ true → Inv (suc n) s h → Reaches n (landed stop s x) h
    unfolding landed some_ends steps_in mark_in
    keeps_landed x h z i =
        ends_stops stop _ (λ e. ends_done (record { reason = by_width z e (plain_going i.0); unmarked = i.0.unmarked; not_six = refl }))
        (λ e. ends_value _ (λ v. record { reason = of_value z (not_answered a _ v) (plain_going (plain_on i.0 refl (rw e refl) refl)); unmarked = i.0.unmarked; not_six = refl })
        (λ p v. keeps_arrived p _ (answered a _ z p v).is_true (plain_on i.0 refl (rw (z, e) refl) refl, i.1, i.2)))

    keeps_turn : (h : List Event) → Inv (suc n) s h → Reaches n (turn_from stop s) h
    unfolding turn_from some_ends steps_in mark_in
    keeps_turn h i =
        ends_stops stop _ (λ e. ends_done (record { reason = of_flatness (difference_of i.1 i.2) e (plain_going i.0); unmarked = i.0.unmarked; not_six = refl }))
        (λ e. ends_offered _ _ (λ c. record { reason = of_candidate c (plain_going (plain_on i.0 refl (rw e refl) refl)); unmarked = i.0.unmarked; not_six = refl })
        (λ c. keeps_landed _ _ c (plain_on i.0 refl (rw (c, e) refl) refl, i.1, i.2)))

  -- every secant search from finite points ends with its reason, and unmarked
  pub secant_ends : (x y : Float) → finite x ≡ true → finite y ≡ true → Ends (oracle a) Post (secant_program stop x y) []
  unfolding secant_program
  secant_ends x y z w = ends_searches (λ r. turns_of stop) (turn_from stop) Inv Post (keeps_opening x y z w) keeps_turn (λ s h i. plain_limit_lem i.0)
