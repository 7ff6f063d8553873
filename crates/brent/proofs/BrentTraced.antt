-- Every Brent history has its events in order, a pair for the opening and one for each step, and c is the earlier b.
use Rattle.std.specs.Prelude.{Bool, List, [], Float}
use Rattle.std.proofs.Math.Logic.{inl, inr}
use Rattle.std.proofs.Math.Path.{refl}
use Rattle.simple_convergency.specs.Stop.{turns_of}
use Rattle.simple_convergency.specs.declared.StopRule.{StopRule}
use Rattle.searching.specs.Programs.{found, converged, oracle, Event}
use Rattle.searching.specs.Brackets.{pairs_in}
use Rattle.searching.specs.Events.{candidates_in, evaluated_since, Tried, PointsOf, PulledNow, Traced}
use Rattle.searching.proofs.EventLaws.{tracing_newest, tracing_value, tracing_stops, tracing_candidate, traced_end}
use Rattle.searching.specs.Keeps.{Ends}
use Rattle.searching.proofs.Keeps.{ends_done, ends_searches}
use Rattle.brent.specs.Brent.{pair_of, landed, pulled_in, step_with, step_from, turn_from, brent_program}
use Rattle.brent.specs.BrentEvents.{Follows, Gives}
use Rattle.brent.specs.declared.Brent.{Brent}
use Rattle.brent.proofs.BrentTraces.{Stands, Inv, Reaches, traces_opening, traces_arrived}

module _ (a : List Float) (stop : StopRule) (from to : Float) where
  module _ (s : Brent) where
    traces_landed : (flag : Bool) (x : Float) (h : List Event) → PulledNow x h → Stands a stop from to s h → Reaches a stop from to (landed s flag x) h
    unfolding landed evaluated_since
    traces_landed flag x h k t = tracing_value x (λ e. inr (inr k)) t (λ p u. traces_arrived a stop from to s flag p _ (x, rw k.3.1 refl) u)

    traces_with : (bisecting : Bool) (guess : Float) (h : List Event) → Tried h → Stands a stop from to s h → Reaches a stop from to (step_with s bisecting guess) h
    unfolding step_with pulled_in pairs_in candidates_in evaluated_since
    traces_with bisecting guess h z t =
        let n = tracing_newest t in
        tracing_candidate (landed s bisecting) _ _ _ ((pair_of s, n), z) (inr (refl, (pair_of s, _, n, (_, refl), refl))) t
        (λ u. traces_landed bisecting _ _ (pair_of s, _, n, ((_, refl), refl), refl) u)

    traces_turn : (h : List Event) → Inv a stop from to s h → Reaches a stop from to (turn_from stop s) h
    unfolding turn_from step_from pairs_in evaluated_since
    traces_turn h (t, c, z) =
        let n = tracing_newest t in
        let points : PointsOf s.a.x s.b.x h = (pair_of s, n, refl, refl) in
        tracing_stops stop (found s.a) (λ b. refl) (λ b. (pair_of s, n, inl refl)) t (λ u. ends_done (traced_end tt u))
        (λ u. tracing_stops stop (found s.b) (λ b. refl) (λ b. (pair_of s, n, inr refl)) u (λ v. ends_done (traced_end tt v))
        (λ v. tracing_stops stop (converged s.a.x s.b.x) (λ b. refl) (λ b. points) v (λ w. ends_done (traced_end (points, c) w))
        (λ w. traces_with _ _ _ z w)))

  -- every search of Brent's method
  pub brent_traced : Ends (oracle a) (Traced (Follows from to) Gives) (brent_program stop from to) []
  unfolding brent_program
  brent_traced = ends_searches (λ r. turns_of stop) (turn_from stop) (λ n. Inv a stop from to) (Traced (Follows from to) Gives) (traces_opening a stop from to) (λ n s h t. traces_turn s h t) (λ s h t. traced_end tt t.0)
