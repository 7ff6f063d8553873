-- Every secant history has its events in order.
use Rattle.std.specs.Prelude.{List, [], Float}
use Rattle.std.proofs.Math.Path.{refl}
use Rattle.simple_convergency.specs.Stop.{turns_of}
use Rattle.simple_convergency.specs.declared.StopRule.{StopRule}
use Rattle.searching.specs.Programs.{oracle, Event}
use Rattle.searching.specs.Events.{evaluations_in, candidates_in, evaluated_since, Ordered}
use Rattle.searching.specs.Keeps.{Ends}
use Rattle.searching.proofs.Keeps.{ends_done, ends_stops, ends_offered, ends_searches}
use Rattle.secant.specs.Secant.{turn_from, secant_program}
use Rattle.secant.specs.SecantEvents.{Follows, Gives}
use Rattle.secant.specs.declared.Secant.{Secant}
use Rattle.secant.proofs.SecantTraces.{Inv, Reaches, traces_opening, traces_landed}

module _ (a : List Float) (stop : StopRule) (first second : Float) where
  traces_turn : (s : Secant) (h : List Event) → Inv a stop first second s h → Reaches a stop first second (turn_from stop s) h
  unfolding turn_from evaluations_in candidates_in evaluated_since
  traces_turn s h (o, l, t) =
      ends_stops stop _ (λ e. ends_done (record { each = ((s.first, s.second, l, refl), o); width = tt }))
      (λ e. ends_offered _ _ (λ c. record { each = ((s.first, s.second, l, t, refl), ((s.first, s.second, l, refl), o)); width = tt })
      (λ c. traces_landed a stop first second s _ _ ((_, refl), refl) ((s.first, s.second, l, t, refl), ((s.first, s.second, l, refl), o)) l))

  -- every secant search
  pub secant_ordered : Ends (oracle a) (Ordered (Follows first second) Gives) (secant_program stop first second) []
  unfolding secant_program
  secant_ordered = ends_searches (λ r. turns_of stop) (turn_from stop) (λ n. Inv a stop first second) (Ordered (Follows first second) Gives) (traces_opening a stop first second) (λ n s h t. traces_turn s h t) (λ s h t. record { each = t.0; width = tt })
