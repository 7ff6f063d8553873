-- Every answer of Brent's method has its reason, its pairs lie each within the one before with signs not the same, and its root lies between the starts.
use Rattle.std.specs.Prelude.{ℕ, suc, Bool, true, ◌||◌, List, [], ◌≡◌, T, Float}
use Rattle.std.proofs.Math.Path.{refl}
use Rattle.std.specs.Float.{binary64}
use Rattle.std.specs.Float.Ieee.{fits}
use Rattle.doubles.proofs.Compare.{of_true, finite_num}
use Rattle.doubles.specs.Doubles.{above, below}
use Rattle.doubles.specs.Number.{Double}
use Rattle.doubles.specs.Pairs.{In}
use Rattle.doubles.proofs.Signs.{not_found}
use Rattle.simple_convergency.specs.Stop.{found_at, turns_of}
use Rattle.simple_convergency.specs.declared.StopRule.{StopRule}
use Rattle.searching.specs.Programs.{oracle, Event, Prog, Turned}
use Rattle.searching.specs.Histories.{steps_in}
use Rattle.searching.specs.Keeps.{Ends, After}
use Rattle.searching.proofs.Keeps.{ends_done, ends_stops, ends_pulled, ends_offered, ends_searches}
use Rattle.searching.specs.Reasons.{some_ends, by_width}
use Rattle.searching.specs.Brackets.{pairs_in, points_of, Bracket, Bracketing}
use Rattle.searching.proofs.BracketLaws.{double_finite, answered_fit, ends_fit, bracket_backed, bracket_narrows, bracket_on, bracket_pulled, bracket_going, bracket_found, bracket_value, bracket_no_candidate, bracket_limit}
use Rattle.brent.specs.Brent.{pair_of, guess_of, landed, pulled_in, step_with, step_from, turn_from, brent_program}
use Rattle.brent.specs.declared.Brent.{Brent}
use Rattle.brent.proofs.BrentKeeps.{used_held, guess_held, Inv, keeps_opening, keeps_arrived}

module _ (a : List Float) (stop : StopRule) (good : above stop.tolerances.value ≡ true) (from to : Float) (from-double : Double from) (to-double : Double to) where
  abbrev Stands : ℕ → Brent → List Event → Type 0
  Stands n s h = Bracketing a stop from to n (pair_of s) h

  abbrev Reaches : ℕ → Prog (Turned Brent) → List Event → Type 0
  Reaches n g h = Ends (oracle a) (After (Inv a stop good from to from-double to-double n) (Bracket a stop from to)) g h

  -- ---- a step
  module _ (n : ℕ) (s : Brent) where
    module _ (away : (above s.a.y || below s.a.y) ≡ true) where
      keeps_landed : (flag : Bool) (x : Float) (h : List Event) → Stands (suc n) s h → In (points_of (pair_of s)) x → Double x → Reaches n (landed s flag x) h
      unfolding landed
      keeps_landed flag x h b i d = bracket_value b x d (λ p t c. keeps_arrived a stop good from to from-double to-double n s away flag p _ c (answered_fit t d i))

      keeps_pulled : (flag : Bool) (x : Float) (h : List Event) → Stands (suc n) s h → Double x → Reaches n (pulled_in s flag x) h
      unfolding pulled_in pairs_in steps_in some_ends
      keeps_pulled flag x h b d = let w = bracket_pulled b x d in ends_pulled _ _ _ x (keeps_landed flag _ _ (bracket_on b refl refl refl) (search w) (search w))

      keeps_with : (bisecting : Bool) (x : Float) (h : List Event) → Stands (suc n) s h → T (fits binary64 x) → Reaches n (step_with s bisecting x) h
      unfolding step_with pairs_in steps_in some_ends
      keeps_with bisecting x h b f =
          ends_offered _ _ (bracket_no_candidate b _)
          (λ c. keeps_pulled bisecting _ _ (bracket_on b refl refl (rw c refl)) (record { is_finite = of_true _ c; is_held = used_held bisecting s x f }))

      keeps_from : (h : List Event) → Stands (suc n) s h → Reaches n (step_from stop s (guess_of s)) h
      unfolding step_from
      keeps_from h b = keeps_with _ _ h b (guess_held s)

    keeps_turn : (h : List Event) → Inv a stop good from to from-double to-double (suc n) s h → Reaches n (turn_from stop s) h
    unfolding turn_from found_at pairs_in steps_in some_ends
    keeps_turn h i =
        let b = i.bracket in
        let w = ends_fit (bracket_backed b) in
        ends_stops stop _ (λ e. ends_done (bracket_found b _ w.0 e))
        (λ e. ends_stops stop _ (λ f. ends_done (bracket_found (bracket_on b refl refl (rw e refl)) _ w.1 f))
        (λ f. ends_stops stop _ (λ g. ends_done (record { reason = by_width (double_finite i.c_between.1) g (bracket_going (bracket_on b refl refl (rw (e, f) refl))); narrows = bracket_narrows b; told = i.c_between }))
        (λ g. keeps_from (not_found _ _ (finite_num _ (of_true _ w.0.is_sample.is_finite)) good e) _ (bracket_on b refl refl (rw (e, f, g) refl)))))

  -- every search of Brent's method from two finite doubles ends as is promised of a bracketing search
  pub brent_ends : Ends (oracle a) (Bracket a stop from to) (brent_program stop from to) []
  unfolding brent_program
  brent_ends = ends_searches (λ r. turns_of stop) (turn_from stop) (Inv a stop good from to from-double to-double) (Bracket a stop from to) (keeps_opening a stop good from to from-double to-double) keeps_turn (λ s h i. bracket_limit i.bracket)
