-- Only the count changed: with the Rust's evaluations the search ends as without them, with one value more for each step.
use Prim.Native.Nat.{ℕ, zero, suc, ◌+◌}
use Rattle.std.proofs.Common.{arith, ◌∙◌}
use Rattle.std.specs.Prelude.{Bool, cond, Option, Some, None, List, ◌≡◌, Float}
use Rattle.std.proofs.Math.Bool.{true, false}
use Rattle.std.proofs.Math.Path.{refl, ap}
use Rattle.std.specs.Float.Ieee.Scale.{finite}
use Rattle.doubles.specs.Doubles.{opposite_sign, outside, pulled}
use Rattle.numerical.specs.Answers.{outcome}
use Rattle.numerical.specs.Tallies.{fresh, valued_of, stepped_of, ruled_of}
use Rattle.numerical.specs.declared.Answer.{Answer}
use Rattle.numerical.specs.declared.Interval.{Interval}
use Rattle.numerical.specs.declared.Progress.{Progress}
use Rattle.numerical.specs.declared.Sample.{Sample}
use Rattle.polynom.specs.Polynom.{evaluated}
use Rattle.simple_convergency.specs.Stop.{turns_of}
use Rattle.simple_convergency.specs.declared.StopRule.{StopRule}
use Rattle.searching.proofs.Keeps.{ends_tallied}
use Rattle.searching.proofs.ProgramLaws.{play_bind}
use Rattle.searching.specs.Programs.{Test, holds, ruled, Prog, done, log, Turned, ended, next, bind, test, stops, sampled, value_at, offered, pulled_into, product_departs, bracketed, narrows_to, run, searches, oracle, Event, play, tallied, answer_of}
use Rattle.brent.specs.Brent.{arrange, opened, second_at, first_at, opening, next_of, completes, pair_after, step_departs, arrived, landed, pulled_in, step_with, step_from, turn_from, brent_program, brent}
use Rattle.brent.specs.BrentRust.{rust_arrived, rust_step, rust_turn, rust_program, rust_brent, repeated}
use Rattle.brent.specs.BrentSamples.{Evaluations, Known}
use Rattle.brent.proofs.BrentSamples.{knows_opening, knows_turn}
use Rattle.brent.specs.declared.Brent.{Brent}

-- a value counted before or after: the steps are the same
valued_repeated : (p : Progress) → valued_of (repeated p) ≡ repeated (valued_of p)
valued_repeated p =
    let same : p.tally.values.0 + p.tally.steps.0 + 1 ≡ p.tally.values.0 + 1 + p.tally.steps.0 = omega arith in
    λ i. record { tally = record { steps = p.tally.steps; values = record { 0 = same i }; derivatives = p.tally.derivatives }; mark = p.mark }

-- the kept end's value and the step, or the step alone
stepped_repeated : (p : Progress) → stepped_of (valued_of (repeated p)) ≡ repeated (stepped_of p)
stepped_repeated p =
    let same : p.tally.values.0 + p.tally.steps.0 + 1 ≡ p.tally.values.0 + (p.tally.steps.0 + 1) = omega arith in
    λ i. record { tally = record { steps = record { 0 = p.tally.steps.0 + 1 }; values = record { 0 = same i }; derivatives = p.tally.derivatives }; mark = p.mark }

module _ (cs : List Float) where
  -- begun with the steps added to the values, g ends as h does, again with the steps added
  record Repeats {A : Type 0} (g h : Prog A) : Type 0 where
    same : (p : Progress) → play tallied (oracle cs) g (repeated p) ≡ ((play tallied (oracle cs) h p).0, repeated (play tallied (oracle cs) h p).1)

  -- ---- the words
  module _ {A : Type 0} where
    repeats_done : (a : A) → Repeats (done a) (done a)
    unfolding play
    repeats_done a = record { same = λ p. refl }

    repeats_test : {f g h k : Prog A} (b : Bool) → Repeats f h → Repeats g k → Repeats (test b f g) (test b h k)
    unfolding test
    repeats_test true r s = r
    repeats_test false r s = s

    repeats_stops : {f g h k : Prog A} (stop : StopRule) (t : Test) → Repeats f h → Repeats g k → Repeats (stops stop t f g) (stops stop t h k)
    unfolding stops play
    repeats_stops stop t r s = record { same = (repeats_test (holds stop t) r s).same }

    repeats_ruled : {g h : Prog A} (rule : ℕ) (departed : Bool) → Repeats g h → Repeats (log (ruled rule departed) g) (log (ruled rule departed) h)
    unfolding play
    repeats_ruled rule departed r = record { same = λ p. r.same (ruled_of rule departed p) }

    repeats_pulled : {k l : Float → Prog A} (u v x : Float) → ((y : Float) → Repeats (k y) (l y)) → Repeats (pulled_into u v x k) (pulled_into u v x l)
    unfolding pulled_into
    repeats_pulled u v x f = repeats_ruled 2 (outside u v x) (f (pulled u v x))

  repeats_offered : {k l : Float → Prog (Turned Brent)} (x : Float) → ((y : Float) → Repeats (k y) (l y)) → Repeats (offered x k) (offered x l)
  unfolding offered play
  repeats_offered x f = record { same = (repeats_test (finite x) (f x) (repeats_done _)).same }

  repeats_value : {k l : Sample → Prog (Turned Brent)} (x : Float) → ((p : Sample) → evaluated cs x ≡ Some p → Repeats (k p) (l p)) → Repeats (value_at x k) (value_at x l)
  unfolding value_at play sampled
  repeats_value {k} {l} x f = record { same = λ p. ap (play tallied (oracle cs) (sampled (evaluated cs x) k)) (valued_repeated p) ∙ (go (evaluated cs x) refl).same (valued_of p) }
    where
      go : (e : Option Sample) → evaluated cs x ≡ e → Repeats (sampled e k) (sampled e l)
      go None e = repeats_done _
      go (Some p) e = f p e

  repeats_bracketed : (stop : StopRule) (p q : Sample) (s : Brent) → Repeats (bracketed stop p q s) (bracketed stop p q s)
  unfolding bracketed play
  repeats_bracketed stop p q s = repeats_ruled 1 (product_departs p q) (repeats_stops stop _ (repeats_done _) (record { same = (repeats_done {A = Turned Brent} (next s)).same }))

  -- a step to the state that the kept end's sample gives, where that is what the evaluator gives
  repeats_kept : {q : Sample} (x : Float) (pair : Brent → Interval) (f : Sample → Brent) → evaluated cs x ≡ Some q → Repeats (value_at x (λ r. narrows_to pair (f r))) (narrows_to pair (f q))
  unfolding value_at sampled narrows_to play
  repeats_kept {q} x pair f e = record { same = λ p. ap (from p) e ∙ ap there (stepped_repeated p) }
    where
      from : Progress → Option Sample → Turned Brent × Progress
      from p v = play tallied (oracle cs) (sampled v (λ r. narrows_to pair (f r))) (valued_of (repeated p))

      there : Progress → Turned Brent × Progress
      there p = (next (f q), p)

  -- ---- a turn
  repeats_arrived : (s : Brent) (flag : Bool) (p : Sample) → Evaluations cs s → Repeats (rust_arrived s flag p) (arrived s flag p)
  unfolding rust_arrived arrived pair_after test
  repeats_arrived s flag p k = repeats_ruled 1 (step_departs s.a p) (go (opposite_sign s.a.y p.y))
    where
      go :
          (t : Bool) →
          Repeats
          (test t (value_at s.a.x (λ a. completes s flag (arrange a p))) (value_at s.b.x (λ b. completes s flag (arrange p b))))
          (completes s flag (cond t (arrange s.a p) (arrange p s.b)))
      go true = repeats_kept s.a.x _ (λ a. next_of s flag (arrange a p)) k.of_a
      go false = repeats_kept s.b.x _ (λ b. next_of s flag (arrange p b)) k.of_b

  repeats_turn : (stop : StopRule) (s : Brent) → Evaluations cs s → Repeats (rust_turn stop s) (turn_from stop s)
  unfolding rust_turn rust_step turn_from step_from step_with pulled_in landed
  repeats_turn stop s k =
      repeats_stops stop _ (repeats_done _)
      (repeats_stops stop _ (repeats_done _)
      (repeats_stops stop _ (repeats_done _)
      (repeats_offered _ (λ x. repeats_pulled _ _ x (λ y. repeats_value y (λ p e. repeats_arrived s _ p k))))))

  -- ---- a whole search

  -- one program after another
  repeats_bind :
      {g h : Prog (Turned Brent)} (k l : Turned Brent → Prog Answer) → Repeats g h →
      ((p : Progress) → Repeats (k (play tallied (oracle cs) h p).0) (l (play tallied (oracle cs) h p).0)) → Repeats (bind g k) (bind h l)
  repeats_bind {h = h} k l r f = record { same = λ p. rw (play_bind, r.same p, play_bind) ((f p).same (play tallied (oracle cs) h p).1) }

  repeats_run : (stop : StopRule) (n : ℕ) (r : Turned Brent) (h : List Event) → Known cs r h → Repeats (run (rust_turn stop) n r) (run (turn_from stop) n r)
  unfolding run
  repeats_run stop zero (ended a) h k = repeats_done a
  repeats_run stop zero (next s) h k = repeats_done _
  repeats_run stop (suc n) (ended a) h k = repeats_done a
  repeats_run stop (suc n) (next s) h k =
      repeats_bind (run (rust_turn stop) n) (run (turn_from stop) n) (repeats_turn stop s k)
      (λ p. repeats_run stop n (play tallied (oracle cs) (turn_from stop s) p).0 _ (ends_tallied p (knows_turn cs stop s k)))

  repeats_opening : (stop : StopRule) (from to : Float) → Repeats (opening stop from to) (opening stop from to)
  unfolding opening first_at second_at opened
  repeats_opening stop from to = repeats_value _ (λ p e. repeats_value _ (λ q f. repeats_bracketed stop _ _ _))

  repeats_program : (stop : StopRule) (from to : Float) → Repeats (rust_program stop from to) (brent_program stop from to)
  unfolding rust_program brent_program searches
  repeats_program stop from to =
      repeats_bind (run (rust_turn stop) (turns_of stop)) (run (turn_from stop) (turns_of stop)) (repeats_opening stop from to)
      (λ p. repeats_run stop (turns_of stop) _ _ (ends_tallied p (knows_opening cs stop from to)))

  -- ONLY THE COUNT CHANGED: of every call, whatever its coefficients, stop rule and starts
  pub rust_repeats : (stop : StopRule) (from to : Float) → rust_brent cs stop from to ≡ outcome ((brent cs stop from to).answer, repeated (brent cs stop from to).progress)
  unfolding rust_brent brent answer_of
  rust_repeats stop from to = ap outcome ((repeats_program stop from to).same fresh)
