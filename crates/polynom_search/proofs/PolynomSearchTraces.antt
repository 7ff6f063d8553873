-- Every history of the polynomial search has its events in order, a pair for the opening and one for each step.
use Rattle.std.specs.Prelude.{Some, List, [], ◌∷◌, ◌≡◌, Float}
use Rattle.std.proofs.Math.Logic.{inl, inr}
use Rattle.std.proofs.Math.Path.{refl}
use Rattle.std.specs.Float.Ieee.{lt}
use Rattle.doubles.specs.Doubles.{absolute, pulled}
use Rattle.numerical.specs.Middle.{middle_of}
use Rattle.numerical.specs.declared.Interval.{Interval}
use Rattle.numerical.specs.declared.Sample.{Sample}
use Rattle.polynom.specs.declared.ValueAndDerivative.{ValueAndDerivative}
use Rattle.simple_convergency.specs.Stop.{turns_of}
use Rattle.simple_convergency.specs.declared.StopRule.{StopRule}
use Rattle.searching.specs.Programs.{rising, found, converged, oracle, Event, asked, Prog, Turned}
use Rattle.searching.specs.Brackets.{pairs_in}
use Rattle.searching.specs.Events.{evaluations_in, candidates_in, evaluated_since, Tried, AnsweredBoth, lower_of, upper_of, PointsOf, PulledNow, Traced, Opening, Tracing}
use Rattle.searching.proofs.EventLaws.{opening_none, opening_value, tracing_newest, tracing_value, tracing_both, tracing_stops, tracing_candidate, tracing_ruled, tracing_narrows, traced_end, traced_bracketed}
use Rattle.searching.specs.Keeps.{Ends, After}
use Rattle.searching.proofs.Keeps.{ends_done, ends_test, ends_searches}
use Rattle.polynom.specs.Polynom.{newton_point}
use Rattle.polynom_search.specs.PolynomSearch.{second_at, first_at, ordered, opening, pair_of, replaced_of, chosen, closer, usable, at_middle, step_at, width_at, pulled_in, at_middle_of, turn_from, polynom_program}
use Rattle.polynom_search.specs.PolynomSearchEvents.{ChosenNow, Follows, Gives}
use Rattle.polynom_search.proofs.PolynomSearchKeeps.{replaced_one}

module _ (a : List Float) (stop : StopRule) (from to : Float) where
  abbrev Stands : Interval → List Event → Type 0
  Stands i h = Tracing (Follows from to) i h

  -- the newest pair is the state, and the middle before was evaluated
  abbrev Inv : Interval → List Event → Type 0
  Inv i h = Stands i h × Tried h

  abbrev Reaches : Prog (Turned Interval) → List Event → Type 0
  Reaches g h = Ends (oracle a) (After Inv (Traced (Follows from to) Gives)) g h

  -- ---- the opening, from the starts in order
  module _ (x1 x2 : Float) (low : x1 ≡ lower_of from to) (high : x2 ≡ upper_of from to) where
    traces_first : (p : Sample) (h : List Event) → evaluations_in h ≡ asked x1 (Some p) ∷ [] → Opening (Follows from to) h → Reaches (first_at stop x2 p) h
    unfolding first_at second_at evaluations_in evaluated_since
    traces_first p h l o =
        opening_value x2 (λ e. inr (inl (Some p, rw (← low) l, high))) o
        (λ q b. traced_bracketed stop (record { begin = p; end = q }) _ (λ d. inl refl) (λ d c. (x1, x2, inl (rw l refl))) (λ d c. inl (x1, x2, inl (rw l refl))) b (λ h2 n f t. (t, (_, _, f))))

    traces_ordered : Reaches (ordered stop x1 x2) []
    unfolding ordered evaluations_in
    traces_ordered = opening_value x1 (λ e. inl (refl, low)) opening_none (λ p b. traces_first p _ refl b)

  traces_opening : Reaches (opening stop from to) []
  unfolding opening rising
  traces_opening = ends_test (lt to from) (λ e. traces_ordered to from (rw e refl) (rw e refl)) (λ e. traces_ordered from to (rw e refl) (rw e refl))

  -- ---- a step
  module _ (i : Interval) where
    traces_chosen : (p : Sample) (h : List Event) → ChosenNow p h → Tried h → Stands i h → Reaches (chosen i p) h
    unfolding chosen pairs_in evaluated_since
    traces_chosen p h c z t =
        tracing_ruled _ (inl refl) t (λ u. tracing_narrows pair_of (replaced_of i p) (inr (p, c, (i, tracing_newest u, replaced_one i p))) (_, _, refl) u (λ v. (v, z)))

    traces_middle : (v : ValueAndDerivative) (h : List Event) → AnsweredBoth v h → Stands i h → Reaches (at_middle i v) h
    unfolding at_middle closer evaluated_since
    traces_middle v h (x, l) t =
        let n = tracing_newest t in
        ends_test (usable i v)
        (λ e. tracing_value (newton_point v) (λ r. inr (inr (i, v, n, (x, l), e, refl))) t
        (λ p u. ends_test (lt (absolute p.y) (absolute v.value.y))
        (λ c. traces_chosen p _ (v, inr (p, (x, newton_point v, rw l refl), rw c refl)) (_, _, refl) u)
        (λ c. traces_chosen v.value _ (v, inr (p, (x, newton_point v, rw l refl), rw c refl)) (_, _, refl) u)))
        (λ e. traces_chosen v.value h (v, inl ((x, l), (i, n, e), refl)) (_, _, l) t)

    traces_step : (x : Float) (h : List Event) → PulledNow x h → Stands i h → Reaches (step_at i x) h
    unfolding step_at evaluated_since
    traces_step x h k t = tracing_both x (λ e. k) t (λ v u. traces_middle v _ (x, rw k.3.1 refl) u)

    -- the middle is pulled into the pair, by width too
    traces_middle_of :
        (g : Float → Prog (Turned Interval)) (h : List Event) → Tried h → Stands i h →
        ((x : Float) (h2 : List Event) → PulledNow x h2 → x ≡ pulled i.begin.x i.end.x (middle_of i) → Stands i h2 → Reaches (g x) h2) →
        Reaches (at_middle_of i g) h
    unfolding at_middle_of pulled_in pairs_in candidates_in evaluated_since
    traces_middle_of g h z t f =
        let n = tracing_newest t in
        tracing_candidate g _ _ (middle_of i) ((i, n, refl), z) (inr (refl, (i, middle_of i, n, (_, refl), refl))) t
        (λ u. f _ _ (i, middle_of i, n, ((_, refl), refl), refl) refl u)

    traces_turn : (h : List Event) → Inv i h → Reaches (turn_from stop i) h
    unfolding turn_from width_at pairs_in evaluated_since
    traces_turn h (t, y) =
        let n = tracing_newest t in
        let points : PointsOf i.begin.x i.end.x h = (i, n, refl, refl) in
        tracing_stops stop (found i.begin) (λ b. refl) (λ b. (i, n, inl refl)) t (λ u. ends_done (traced_end tt u))
        (λ u. tracing_stops stop (found i.end) (λ b. refl) (λ b. (i, n, inr refl)) u (λ v. ends_done (traced_end tt v))
        (λ v. tracing_stops stop (converged i.begin.x i.end.x) (λ b. refl) (λ b. points) v
        (λ w. traces_middle_of (width_at i) _ y w (λ x h2 k e z. ends_done (traced_end (i, tracing_newest z, refl, refl, e) z)))
        (λ w. traces_middle_of (step_at i) _ y w (λ x h2 k e z. traces_step x h2 k z))))

  -- every polynomial search
  pub polynom_search_traced : Ends (oracle a) (Traced (Follows from to) Gives) (polynom_program stop from to) []
  unfolding polynom_program
  polynom_search_traced = ends_searches (λ r. turns_of stop) (turn_from stop) (λ n. Inv) (Traced (Follows from to) Gives) traces_opening (λ n i h t. traces_turn i h t) (λ i h t. traced_end tt t.0)
