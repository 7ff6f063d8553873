-- Every Newton history has its events in order.
use Rattle.std.specs.Prelude.{List, [], ◌≡◌, Float}
use Rattle.std.proofs.Math.Logic.{inl, inr}
use Rattle.std.proofs.Math.Path.{refl}
use Rattle.polynom.specs.declared.ValueAndDerivative.{ValueAndDerivative}
use Rattle.simple_convergency.specs.declared.StopRule.{StopRule}
use Rattle.searching.specs.Programs.{oracle, Event, Prog, Turned}
use Rattle.searching.specs.Events.{evaluations_in, candidates_in, evaluated_since, Untried, SampledBoth, AnsweredBoth, Each, Ordered}
use Rattle.searching.specs.Keeps.{Ends, After}
use Rattle.searching.proofs.Keeps.{ends_done, ends_test, ends_stops, ends_both, ends_offered, ends_steps, ends_searches}
use Rattle.newton_raphson.specs.NewtonRaphson.{landed, onward, later_at, turn_from, nudged_to, nudge, first_at, opening, turns_left, newton_program}
use Rattle.newton_raphson.specs.NewtonRaphsonEvents.{Follows, Gives}
use Rattle.newton_raphson.specs.declared.Spot.{Spot}

module _ (a : List Float) (stop : StopRule) (start : Float) where
  abbrev Orders : List Event → Type 0
  Orders h = Each (Follows start) h

  -- the state's point is the newest candidate, not evaluated yet
  abbrev Inv : Spot → List Event → Type 0
  Inv s h = Orders h × Untried s.x h

  abbrev Reaches : Prog (Turned Spot) → List Event → Type 0
  Reaches g h = Ends (oracle a) (After Inv (Ordered (Follows start) Gives)) g h

  -- ---- from the value and derivative just worked out
  module _ (v : ValueAndDerivative) where
    traces_onward : (h : List Event) → SampledBoth v h → AnsweredBoth v h → Orders h → Reaches (onward stop v) h
    unfolding onward landed evaluations_in candidates_in evaluated_since
    traces_onward h l w o =
        ends_offered _ _ (λ c. record { each = ((v, w, inl refl), o); width = tt })
        (λ c. ends_stops stop _
        (λ e. ends_done (record { each = ((v, l, refl, (_, refl)), ((v, w, inl refl), o)); width = (refl, (_, refl), (v, l, refl)) }))
        (λ e. ends_steps _ (((_, ((_, refl), refl)), ((v, l, refl, (_, refl)), ((v, w, inl refl), o))), ((_, refl), refl))))

    traces_later : (h : List Event) → SampledBoth v h → AnsweredBoth v h → Orders h → Reaches (later_at stop v) h
    unfolding later_at evaluations_in evaluated_since
    traces_later h l w o =
        ends_stops stop _ (λ e. ends_done (record { each = ((v, l, refl), o); width = tt }))
        (λ e. ends_stops stop _ (λ f. ends_done (record { each = ((v, l, refl), ((v, l, refl), o)); width = tt }))
        (λ f. traces_onward _ l w ((v, l, refl), ((v, l, refl), o))))

    traces_first : (h : List Event) → SampledBoth v h → AnsweredBoth v h → candidates_in h ≡ [] → Orders h → Reaches (first_at stop v) h
    unfolding first_at nudge nudged_to evaluations_in candidates_in evaluated_since
    traces_first h l w n o =
        ends_stops stop _ (λ e. ends_done (record { each = ((v, l, refl), o); width = tt }))
        (λ e. ends_test _
        (λ f. ends_offered _ _ (λ c. record { each = ((v, w, inr (n, refl)), ((v, l, refl), o)); width = tt }) (λ c. ends_steps _ (((_, ((_, refl), refl)), ((v, w, inr (n, refl)), ((v, l, refl), o))), ((_, refl), refl))))
        (λ f. traces_onward _ l w ((v, l, refl), o)))

  traces_opening : Reaches (opening stop start) []
  unfolding opening evaluations_in candidates_in evaluated_since
  traces_opening = ends_both start (λ n. record { each = (inl (refl, refl), tt); width = tt }) (λ v n. traces_first v _ (start, _, refl) (start, refl) refl (inl (refl, refl), tt))

  traces_turn : (s : Spot) (h : List Event) → Inv s h → Reaches (turn_from stop s) h
  unfolding turn_from evaluations_in evaluated_since
  traces_turn s h (o, k) = ends_both s.x (λ n. record { each = (inr k, o); width = tt }) (λ v n. traces_later v _ (s.x, _, refl) (s.x, rw k.1 refl) (inr k, o))

  -- every Newton search
  pub newton_raphson_ordered : Ends (oracle a) (Ordered (Follows start) Gives) (newton_program stop start) []
  unfolding newton_program
  newton_raphson_ordered = ends_searches (turns_left stop) (turn_from stop) (λ n. Inv) (Ordered (Follows start) Gives) traces_opening (λ n s h t. traces_turn s h t) (λ s h t. record { each = t.0; width = tt })
