-- Every Illinois history has its events in order, a pair for the opening and one for each step.
use mathlib.Core.List.{List, [], ◌∷◌}
use Rattle.std.proofs.Math.Logic.{inl, inr}
use Rattle.std.specs.Prelude.{◌≡◌, Float}
use Rattle.std.proofs.Math.Path.{refl, ap}
use Rattle.std.proofs.Common.{◌∙◌}
use Rattle.std.specs.Float.Ieee.{lt}
use Rattle.numerical.specs.declared.Sample.{Sample}
use Rattle.std.specs.Prelude.{Some}
use Rattle.simple_convergency.specs.Stop.{turns_of}
use Rattle.simple_convergency.specs.declared.StopRule.{StopRule}
use Rattle.searching.specs.Programs.{rising, found, oracle, Event, asked, Prog, Turned}
use Rattle.searching.specs.Brackets.{pairs_in}
use Rattle.searching.specs.Events.{evaluations_in, candidates_in, evaluated_since, Tried, Sampled, Answered, lower_of, upper_of, PointsOf, PulledNow, Traced, Opening, Tracing}
use Rattle.searching.proofs.EventLaws.{opening_none, opening_value, opening_stops, traced_early, tracing_newest, tracing_value, tracing_stops, tracing_candidate, tracing_ruled, tracing_narrows, traced_end, traced_bracketed}
use Rattle.searching.specs.Keeps.{Ends, After}
use Rattle.searching.proofs.Keeps.{ends_done, ends_test, ends_searches}
use Rattle.regula_falsi.specs.RegulaFalsi.{pair_of, replaced_of, second_at, first_at, ordered, opening, candidate_of, arrived, landed, pulled_in, turn_from, illinois_program}
use Rattle.regula_falsi.specs.RegulaFalsiEvents.{Follows, Gives}
use Rattle.regula_falsi.proofs.RegulaFalsiKeeps.{replaced_one}
use Rattle.regula_falsi.specs.declared.Illinois.{Illinois}

module _ (a : List Float) (stop : StopRule) (from to : Float) where
  abbrev Stands : Illinois → List Event → Type 0
  Stands s h = Tracing (Follows from to) (pair_of s) h

  -- the newest pair is the state's, and the candidate before was evaluated
  abbrev Inv : Illinois → List Event → Type 0
  Inv s h = Stands s h × Tried h

  abbrev Reaches : Prog (Turned Illinois) → List Event → Type 0
  Reaches g h = Ends (oracle a) (After Inv (Traced (Follows from to) Gives)) g h

  -- ---- the opening, from the starts in order
  module _ (x1 x2 : Float) (low : x1 ≡ lower_of from to) (high : x2 ≡ upper_of from to) where
    traces_second : (p q : Sample) (h : List Event) → evaluations_in h ≡ asked x2 (Some q) ∷ asked x1 (Some p) ∷ [] → Tried h → Opening (Follows from to) h → Reaches (second_at stop p q) h
    unfolding second_at evaluations_in evaluated_since
    traces_second p q h l z o =
        opening_stops stop (found q) (λ b. refl) (λ b. (x2, _, l)) o (λ b. ends_done (traced_early tt tt b))
        (λ b. traced_bracketed stop (record { begin = p; end = q }) _ (λ d. inl refl) (λ d c. (x1, x2, inl l)) (λ d c. inl (x1, x2, inl l)) b (λ h2 n f t. (t, (z.0, z.1, f ∙ z.2))))

    traces_first : (p : Sample) (h : List Event) → evaluations_in h ≡ asked x1 (Some p) ∷ [] → Opening (Follows from to) h → Reaches (first_at stop x2 p) h
    unfolding first_at evaluations_in evaluated_since
    traces_first p h l o =
        opening_stops stop (found p) (λ b. refl) (λ b. (x1, _, l)) o (λ b. ends_done (traced_early tt tt b))
        (λ b. opening_value x2 (λ e. inr (inl (Some p, rw (← low) l, high))) b (λ q c. traces_second p q _ (rw l refl) (_, _, refl) c))

    traces_ordered : Reaches (ordered stop x1 x2) []
    unfolding ordered evaluations_in
    traces_ordered = opening_value x1 (λ e. inl (refl, low)) opening_none (λ p b. traces_first p _ refl b)

  traces_opening : Reaches (opening stop from to) []
  unfolding opening rising
  traces_opening = ends_test (lt to from) (λ e. traces_ordered to from (rw e refl) (rw e refl)) (λ e. traces_ordered from to (rw e refl) (rw e refl))

  -- ---- a step
  module _ (s : Illinois) where
    traces_arrived : (p : Sample) (h : List Event) → Sampled p h → Answered p h → Stands s h → Reaches (arrived stop s p) h
    unfolding arrived pairs_in evaluated_since
    traces_arrived p h l w t =
        tracing_stops stop (found p) (λ b. refl) (λ b. l) t (λ u. ends_done (traced_end tt u))
        (λ u. tracing_ruled _ (inl refl) u (λ v.
        tracing_narrows pair_of (replaced_of s p) (inr (p, w, (pair_of s, tracing_newest v, replaced_one s p))) (_, _, refl) v (λ z. (z, (_, _, w.1)))))

    traces_landed : (x : Float) (h : List Event) → PulledNow x h → Stands s h → Reaches (landed stop s x) h
    unfolding landed pairs_in candidates_in evaluations_in evaluated_since
    traces_landed x h k t =
        let points : PointsOf s.left.at.x s.right.at.x h = (pair_of s, tracing_newest t, refl, refl) in
        tracing_stops stop _ (λ b. refl) (λ b. points) t (λ u. ends_done (traced_end (points, k) u))
        (λ u. tracing_value x (λ e. inr (inr k)) u (λ p v. traces_arrived p _ (x, _, refl) (x, ap (λ (l : List Event). asked x (Some p) ∷ l) k.3.1) v))

    traces_turn : (h : List Event) → Inv s h → Reaches (turn_from stop s) h
    unfolding turn_from pulled_in pairs_in candidates_in evaluated_since
    traces_turn h (t, z) =
        let n = tracing_newest t in
        tracing_candidate (landed stop s) _ _ (candidate_of s) ((pair_of s, n), z) (inr (refl, (pair_of s, candidate_of s, n, (_, refl), refl))) t
        (λ u. traces_landed _ _ (pair_of s, candidate_of s, n, ((_, refl), refl), refl) u)

  -- every Illinois search
  pub regula_falsi_traced : Ends (oracle a) (Traced (Follows from to) Gives) (illinois_program stop from to) []
  unfolding illinois_program
  regula_falsi_traced = ends_searches (λ r. turns_of stop) (turn_from stop) (λ n. Inv) (Traced (Follows from to) Gives) traces_opening (λ n s h t. traces_turn s h t) (λ s h t. traced_end tt t.0)
