-- The steps of a secant search, each with its events in order.
use Rattle.std.specs.Prelude.{List, [], ◌∷◌, ◌≡◌, Float}
use Rattle.std.proofs.Common.{inl, inr}
use Rattle.std.proofs.Math.Path.{refl}
use Rattle.numerical.specs.declared.Sample.{Sample}
use Rattle.std.specs.Prelude.{Some}
use Rattle.simple_convergency.specs.declared.StopRule.{StopRule}
use Rattle.searching.specs.Programs.{oracle, Event, asked, Prog, Turned}
use Rattle.searching.specs.Events.{evaluations_in, candidates_in, evaluated_since, Untried, Tried, SampledTwo, LastPoint, Each, Ordered}
use Rattle.searching.specs.Keeps.{Ends, After}
use Rattle.searching.proofs.Keeps.{ends_done, ends_stops, ends_value, ends_steps}
use Rattle.secant.specs.Secant.{second_at, first_at, opening, arrived, landed}
use Rattle.secant.specs.SecantEvents.{Follows, Gives}
use Rattle.secant.specs.declared.Secant.{Secant}

module _ (a : List Float) (stop : StopRule) (first second : Float) where
  abbrev pub Orders : List Event → Type 0
  Orders h = Each (Follows first second) h

  -- the state holds the last two samples, and the candidate before was evaluated
  abbrev pub Inv : Secant → List Event → Type 0
  Inv s h = Orders h × SampledTwo s.first s.second h × Tried h

  abbrev pub Reaches : Prog (Turned Secant) → List Event → Type 0
  Reaches g h = Ends (oracle a) (After Inv (Ordered (Follows first second) Gives)) g h

  -- ---- the opening
  traces_second : (p q : Sample) (h : List Event) → evaluations_in h ≡ asked second (Some q) ∷ asked first (Some p) ∷ [] → Tried h → Orders h → Reaches (second_at stop p q) h
  unfolding second_at evaluations_in evaluated_since
  traces_second p q h l t o = ends_stops stop _ (λ e. ends_done (record { each = ((second, _, l), o); width = tt })) (λ e. ends_done (((second, _, l), o), (first, second, _, l), t))

  traces_first : (p : Sample) (h : List Event) → evaluations_in h ≡ asked first (Some p) ∷ [] → Orders h → Reaches (first_at stop second p) h
  unfolding first_at evaluations_in evaluated_since
  traces_first p h l o =
      ends_stops stop _ (λ e. ends_done (record { each = ((first, _, l), o); width = tt }))
      (λ e. ends_value second (λ n. record { each = (inr (inl (Some p, l, refl)), ((first, _, l), o)); width = tt })
      (λ q n. traces_second p q _ (rw l refl) (_, _, refl) (inr (inl (Some p, l, refl)), ((first, _, l), o))))

  pub traces_opening : Reaches (opening stop first second) []
  unfolding opening evaluations_in
  traces_opening = ends_value first (λ n. record { each = (inl (refl, refl), tt); width = tt }) (λ p n. traces_first p _ refl (inl (refl, refl), tt))

  -- ---- a step
  module _ (s : Secant) where
    pub traces_landed : (x : Float) (h : List Event) → Untried x h → Orders h → SampledTwo s.first s.second h → Reaches (landed stop s x) h
    unfolding landed arrived evaluations_in candidates_in evaluated_since
    traces_landed x h k o (u, v, older, l) =
        let last : LastPoint s.second.x h = (s.second, (v, _, l), refl) in
        ends_stops stop _ (λ e. ends_done (record { each = ((k.0, last), o); width = (refl, k.0, last) }))
        (λ e. ends_value x (λ n. record { each = (inr (inr k), ((k.0, last), o)); width = tt })
        (λ p n. ends_stops stop _
        (λ f. ends_done (record { each = ((x, _, refl), (inr (inr k), ((k.0, last), o))); width = tt }))
        (λ f. ends_steps _ (((p, (x, rw k.1 refl)), ((x, _, refl), (inr (inr k), ((k.0, last), o)))), (v, x, asked u (Some s.first) ∷ older, rw l refl), (_, _, refl)))))
