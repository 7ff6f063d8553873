-- The opening of Brent's method, and a step up to the next pair, with their events in order.
use Rattle.std.specs.Prelude.{Bool, Some, List, [], ◌∷◌, ◌≡◌, Float}
use Rattle.std.proofs.Math.Logic.{inl, inr}
use Rattle.std.proofs.Math.Path.{refl}
use Rattle.std.proofs.Common.{◌∙◌}
use Rattle.numerical.specs.declared.Sample.{Sample}
use Rattle.simple_convergency.specs.declared.StopRule.{StopRule}
use Rattle.searching.specs.Programs.{ruled, oracle, Event, asked, noted, Prog, Turned}
use Rattle.searching.specs.Brackets.{pairs_in}
use Rattle.searching.specs.Events.{evaluations_in, evaluated_since, Tried, Answered, OfStarts, Traced, Opening, Tracing}
use Rattle.searching.proofs.EventLaws.{opening_none, opening_value, tracing_newest, tracing_ruled, tracing_narrows, traced_bracketed}
use Rattle.searching.specs.Keeps.{Ends, After}
use Rattle.brent.specs.Brent.{arrange, pair_of, start_of, opened, second_at, first_at, opening, next_of, completes, step_departs, arrived}
use Rattle.brent.specs.BrentEvents.{Stepped, Follows, IsC, Gives}
use Rattle.brent.proofs.BrentKeeps.{either_way, either_kept}
use Rattle.brent.specs.declared.Arranged.{Arranged}
use Rattle.brent.specs.declared.Brent.{Brent}

module _ (a : List Float) (stop : StopRule) (from to : Float) where
  abbrev pub Stands : Brent → List Event → Type 0
  Stands s h = Tracing (Follows from to) (pair_of s) h

  -- the newest pair is the state's, c the earlier b, and the candidate before was evaluated
  abbrev pub Inv : Brent → List Event → Type 0
  Inv s h = Stands s h × IsC s.c.x (pairs_in h) × Tried h

  abbrev pub Reaches : Prog (Turned Brent) → List Event → Type 0
  Reaches g h = Ends (oracle a) (After Inv (Traced (Follows from to) Gives)) g h

  -- ---- the opening
  traces_opened : (r : Arranged) (h : List Event) → OfStarts r.a r.b h → Tried h → Opening (Follows from to) h → Reaches (opened stop r) h
  unfolding opened start_of evaluations_in
  traces_opened r h l z o =
      traced_bracketed stop (record { begin = r.a; end = r.b }) _ (λ d. inl refl) (λ d c. l) (λ d c. inl l) o
      (λ h2 n f t. (t, rw n refl, (z.0, z.1, f ∙ z.2)))

  traces_second : (p q : Sample) (h : List Event) → evaluations_in h ≡ asked to (Some q) ∷ asked from (Some p) ∷ [] → Tried h → Opening (Follows from to) h → Reaches (second_at stop p q) h
  unfolding second_at
  traces_second p q h l z o = either_way (λ r. Reaches (opened stop r) h) p q (traces_opened _ h (from, to, inl l) z o) (traces_opened _ h (from, to, inr l) z o)

  traces_first : (p : Sample) (h : List Event) → evaluations_in h ≡ asked from (Some p) ∷ [] → Opening (Follows from to) h → Reaches (first_at stop to p) h
  unfolding first_at evaluations_in evaluated_since
  traces_first p h l o = opening_value to (λ e. inr (inl (Some p, l, refl))) o (λ q b. traces_second p q _ (rw l refl) (_, _, refl) b)

  pub traces_opening : Reaches (opening stop from to) []
  unfolding opening evaluations_in
  traces_opening = opening_value from (λ e. inl (refl, refl)) opening_none (λ p b. traces_first p _ refl b)

  -- ---- a step
  module _ (s : Brent) where
    -- to the next pair, whichever of the two samples comes first, and the earlier b becomes c
    traces_next :
        (flag : Bool) (p q : Sample) (h : List Event) → Stepped (record { begin = p; end = q }) h → Stepped (record { begin = q; end = p }) h → Tried h → Stands s h →
        Reaches (completes s flag (arrange p q)) h
    unfolding next_of pairs_in evaluated_since
    traces_next flag p q h f g z t =
        either_way (λ r. Reaches (completes s flag r) h) p q
        (tracing_narrows pair_of _ (inr f) (_, _, refl) t (λ u. (u, rw t.newest refl, z)))
        (tracing_narrows pair_of _ (inr g) (_, _, refl) t (λ u. (u, rw t.newest refl, z)))

    pub traces_arrived : (flag : Bool) (p : Sample) (h : List Event) → Answered p h → Stands s h → Reaches (arrived s flag p) h
    unfolding arrived pairs_in evaluated_since
    traces_arrived flag p h (x, l) t =
        let i = noted (ruled 1 (step_departs s.a p)) ∷ h in
        let n = tracing_newest t in
        tracing_ruled _ (inl refl) t
        (λ u. either_kept (λ r. Reaches (completes s flag r) i) (pair_of s) p
        (λ e. traces_next flag s.a p i (pair_of s, p, n, (x, l), inr (rw e refl)) (pair_of s, p, n, (x, l), inl (rw e refl)) (_, _, l) u)
        (λ e. traces_next flag p s.b i (pair_of s, p, n, (x, l), inl (rw e refl)) (pair_of s, p, n, (x, l), inr (rw e refl)) (_, _, l) u))
