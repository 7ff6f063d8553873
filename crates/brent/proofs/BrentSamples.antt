-- At every state of a run of Brent's method the samples of the pair are what the evaluator gives at their points.
use Rattle.std.specs.Prelude.{Bool, Some, List, [], ◌∷◌, ◌≡◌, Float}
use Rattle.std.proofs.Common.{ap, ◌∙◌}
use Rattle.numerical.specs.declared.Sample.{Sample}
use Rattle.polynom.specs.Polynom.{evaluated}
use Rattle.simple_convergency.specs.declared.StopRule.{StopRule}
use Rattle.searching.specs.Programs.{ruled, Prog, Turned, oracle, Event, noted}
use Rattle.searching.specs.Keeps.{Ends}
use Rattle.searching.proofs.Keeps.{ends_done, ends_log, ends_stops, ends_pulled, ends_value, ends_offered, ends_bracketed, ends_narrows}
use Rattle.searching.proofs.ReasonLaws.{answered_at}
use Rattle.brent.specs.Brent.{arrange, pair_of, start_of, opened, second_at, first_at, opening, next_of, completes, step_departs, arrived, landed, pulled_in, step_with, step_from, turn_from}
use Rattle.brent.proofs.BrentKeeps.{either_way, either_kept}
use Rattle.brent.specs.declared.Arranged.{Arranged}
use Rattle.brent.specs.declared.Brent.{Brent}
use Rattle.brent.specs.BrentSamples.{Evaluations, Known}

module _ (cs : List Float) where
  abbrev Knows : Prog (Turned Brent) → List Event → Type 0
  Knows g h = Ends (oracle cs) (Known cs) g h

  -- an answered sample is the value at its own point
  own : (x : Float) (p : Sample) → evaluated cs x ≡ Some p → evaluated cs p.x ≡ Some p
  own x p e = ap (evaluated cs) (answered_at cs x p e) ∙ e

  -- ---- the opening
  knows_opened : (stop : StopRule) (r : Arranged) (h : List Event) → evaluated cs r.a.x ≡ Some r.a → evaluated cs r.b.x ≡ Some r.b → Knows (opened stop r) h
  unfolding opened start_of
  knows_opened stop r h p q = ends_bracketed _ stop _ _ (λ _. tt) (λ _. record { of_a = p; of_b = q })

  knows_second : (stop : StopRule) (p q : Sample) (h : List Event) → evaluated cs p.x ≡ Some p → evaluated cs q.x ≡ Some q → Knows (second_at stop p q) h
  unfolding second_at
  knows_second stop p q h e f = either_way (λ r. Knows (opened stop r) h) p q (knows_opened stop _ h e f) (knows_opened stop _ h f e)

  pub knows_opening : (stop : StopRule) (from to : Float) → Knows (opening stop from to) []
  unfolding opening first_at
  knows_opening stop from to =
      ends_value from (λ _. tt) (λ p e.
      ends_value to (λ _. tt) (λ q f.
      knows_second stop p q _ (own _ p e) (own _ q f)))

  -- ---- a turn
  knows_next :
      (s : Brent) (flag : Bool) (p q : Sample) (h : List Event) → evaluated cs p.x ≡ Some p → evaluated cs q.x ≡ Some q →
      Knows (completes s flag (arrange p q)) h
  unfolding next_of
  knows_next s flag p q h e f =
      either_way (λ r. Knows (completes s flag r) h) p q (ends_narrows _ pair_of (record { of_a = e; of_b = f })) (ends_narrows _ pair_of (record { of_a = f; of_b = e }))

  knows_arrived : (s : Brent) (flag : Bool) (p : Sample) (h : List Event) → Evaluations cs s → evaluated cs p.x ≡ Some p → Knows (arrived s flag p) h
  unfolding arrived
  knows_arrived s flag p h k e =
      let i = noted (ruled 1 (step_departs s.a p)) ∷ h in
      ends_log _
      (either_kept (λ r. Knows (completes s flag r) i) (pair_of s) p
      (λ _. knows_next s flag s.a p i k.of_a e)
      (λ _. knows_next s flag p s.b i e k.of_b))

  pub knows_turn : (stop : StopRule) (s : Brent) → Evaluations cs s → Knows (turn_from stop s) []
  unfolding turn_from step_from step_with pulled_in landed
  knows_turn stop s k =
      ends_stops stop _ (λ _. ends_done tt) (λ _.
      ends_stops stop _ (λ _. ends_done tt) (λ _.
      ends_stops stop _ (λ _. ends_done tt) (λ _.
      ends_offered _ _ (λ _. tt) (λ _.
      ends_pulled _ _ _ _ (
      ends_value _ (λ _. tt) (λ p e.
      knows_arrived s _ p _ k (own _ p e)))))))
