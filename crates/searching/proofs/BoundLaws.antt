-- How many values, derivatives and steps the words of programs take at most.
use Rattle.std.specs.Prelude.{ℕ, zero, suc, ◌+◌, ◌*◌, ◌≤◌, Bool, List, Float}
use native.Mathlib.Omega.{arith}
use Rattle.std.proofs.Common.{suc-mul, mul-le-mul_right}
use Rattle.std.proofs.Math.Bool.{true, false}
use Rattle.std.specs.Float.Ieee.Scale.{finite}
use Rattle.doubles.specs.Doubles.{outside, pulled}
use Rattle.numerical.specs.Tallies.{fresh, valued_of, sloped_of, ruled_of, Room}
use Rattle.numerical.specs.declared.Answer.{Answer}
use Rattle.numerical.specs.declared.Interval.{Interval}
use Rattle.numerical.specs.declared.Progress.{Progress}
use Rattle.numerical.specs.declared.Sample.{Sample}
use Rattle.simple_convergency.specs.declared.StopRule.{StopRule}
use Rattle.polynom.specs.declared.ValueAndDerivative.{ValueAndDerivative}
use Rattle.std.specs.Prelude.{Option, Some, None}
use Rattle.searching.specs.Programs.{Test, ruled, Prog, done, log, Turned, ended, next, bind, test, stops, holds, sampled, sampled_both, value_at, both_at, offered, pulled_into, bracketed, product_departs, steps_to, narrows_to, run, searches, Oracle, oracle, play, tallied, answer_of}
use Rattle.searching.proofs.ProgramLaws.{play_bind}
use Rattle.searching.specs.Bounds.{More, Within}

more_trans : (v d s v2 d2 s2 : ℕ) {p q r : Progress} → More v d s p q → More v2 d2 s2 q r → More (v + v2) (d + d2) (s + s2) p r
more_trans v d s v2 d2 s2 a b =
    let av = a.values in let ad = a.derivatives in let as2 = a.steps in
    let bv = b.values in let bd = b.derivatives in let bs = b.steps in
    record { values = omega arith; derivatives = omega arith; steps = omega arith }

more_less : {v d s v2 d2 s2 : ℕ} {p q : Progress} → More v d s p q → v ≤ v2 → d ≤ d2 → s ≤ s2 → More v2 d2 s2 p q
more_less a h k l =
    let av = a.values in let ad = a.derivatives in let as2 = a.steps in
    record { values = omega arith; derivatives = omega arith; steps = omega arith }

-- ---- the words

module _ {v d s : ℕ} {A : Type 0} where
  pub within_done : {a : A} → Within v d s (done a)
  unfolding play
  within_done = record { most = λ o p. record { values = omega arith; derivatives = omega arith; steps = omega arith } }

  pub within_test : {g h : Prog A} (b : Bool) → Within v d s g → Within v d s h → Within v d s (test b g h)
  unfolding test
  within_test true g h = g
  within_test false g h = h

  pub within_stops : {g h : Prog A} (stop : StopRule) (t : Test) → Within v d s g → Within v d s h → Within v d s (stops stop t g h)
  unfolding stops play
  within_stops stop t g h = record { most = (within_test (holds stop t) g h).most }

  pub within_ruled : {g : Prog A} (rule : ℕ) (departed : Bool) → Within v d s g → Within v d s (log (ruled rule departed) g)
  unfolding play
  within_ruled rule departed g =
      record { most = λ o p. let h = g.most o (ruled_of rule departed p) in let a = h.values in let b = h.derivatives in let c = h.steps in record { values = a; derivatives = b; steps = c } }

  pub within_pulled : (u w x : Float) {k : Float → Prog A} → ((y : Float) → Within v d s (k y)) → Within v d s (pulled_into u w x k)
  unfolding pulled_into
  within_pulled u w x k = within_ruled 2 (outside u w x) (k (pulled u w x))

module _ {v d s : ℕ} {S : Type 0} where
  pub within_value : (x : Float) {k : Sample → Prog (Turned S)} → ((p : Sample) → Within v d s (k p)) → Within (suc v) d s (value_at x k)
  unfolding value_at play sampled
  within_value x {k} h = record { most = λ o p. let m = (after (o.value x)).most o (valued_of p) in let a = m.values in let b = m.derivatives in let c = m.steps in record { values = omega arith; derivatives = omega arith; steps = omega arith } }
    where
      after : (e : Option Sample) → Within v d s (sampled e k)
      after None = within_done
      after (Some p) = h p

  pub within_both : (x : Float) {k : ValueAndDerivative → Prog (Turned S)} → ((p : ValueAndDerivative) → Within v d s (k p)) → Within (suc v) (suc d) s (both_at x k)
  unfolding both_at play sampled_both
  within_both x {k} h = record { most = λ o p. let m = (after (o.both x)).most o (sloped_of p) in let a = m.values in let b = m.derivatives in let c = m.steps in record { values = omega arith; derivatives = omega arith; steps = omega arith } }
    where
      after : (e : Option ValueAndDerivative) → Within v d s (sampled_both e k)
      after None = within_done
      after (Some p) = h p

  pub within_offered : (x : Float) {k : Float → Prog (Turned S)} → ((y : Float) → Within v d s (k y)) → Within v d s (offered x k)
  unfolding offered play
  within_offered x k = record { most = (within_test (finite x) (k x) within_done).most }

  pub within_bracketed : (stop : StopRule) (p q : Sample) (i : S) → Within v d s (bracketed stop p q i)
  unfolding bracketed play
  within_bracketed stop p q i = within_ruled 1 (product_departs p q) (within_stops stop _ within_done (record { most = (within_done {A = Turned S} {a = next i}).most }))

  pub within_steps : (i : S) → Within v d (suc s) (steps_to i)
  unfolding steps_to play
  within_steps i = record { most = λ o p. record { values = omega arith; derivatives = omega arith; steps = omega arith } }

  pub within_narrows : (pair : S → Interval) (i : S) → Within v d (suc s) (narrows_to pair i)
  unfolding narrows_to play
  within_narrows pair i = record { most = λ o p. record { values = omega arith; derivatives = omega arith; steps = omega arith } }

-- what is within some bounds is within larger ones
pub within_less : {v d s v2 d2 s2 : ℕ} {A : Type 0} {g : Prog A} → Within v d s g → v ≤ v2 → d ≤ d2 → s ≤ s2 → Within v2 d2 s2 g
within_less w h k l = record { most = λ o p. more_less (w.most o p) h k l }

pub within_bind : (v d s v2 d2 s2 : ℕ) {A B : Type 0} {g : Prog A} {k : A → Prog B} → Within v d s g → ((a : A) → Within v2 d2 s2 (k a)) → Within (v + v2) (d + d2) (s + s2) (bind g k)
within_bind v d s v2 d2 s2 {g = g} {k = k} a b =
    record { most = λ o p. rw play_bind (more_trans v d s v2 d2 s2 (a.most o p) ((b (play tallied o g p).0).most o (play tallied o g p).1)) }

pub within_run : (v d s : ℕ) {S : Type 0} (turn : S → Prog (Turned S)) → ((i : S) → Within v d s (turn i)) → (n : ℕ) (r : Turned S) → Within (n * v) (n * d) (n * s) (run turn n r)
unfolding run
within_run v d s turn h zero (ended a) = within_done
within_run v d s turn h zero (next i) = within_done
within_run v d s turn h (suc n) (ended a) = within_done
within_run v d s turn h (suc n) (next i) =
    let w = within_bind v d s (n * v) (n * d) (n * s) (h i) (within_run v d s turn h n) in
    record { most = λ o p. more_less (w.most o p) (omega (arith, suc-mul n v)) (omega (arith, suc-mul n d)) (omega (arith, suc-mul n s)) }

-- THE LAW OF BOUNDS: an opening, and at most m turns
pub within_searches :
    (v d s v2 d2 s2 m : ℕ) {S : Type 0} {opening : Prog (Turned S)} {turns : Turned S → ℕ} {turn : S → Prog (Turned S)} →
    Within v d s opening → ((r : Turned S) → turns r ≤ m) → ((i : S) → Within v2 d2 s2 (turn i)) →
    Within (v + m * v2) (d + m * d2) (s + m * s2) (searches opening turns turn)
unfolding searches
within_searches v d s v2 d2 s2 m {turns = turns} {turn = turn} o t h =
    within_bind v d s (m * v2) (m * d2) (m * s2) o
    (λ r. let w = within_run v2 d2 s2 turn h (turns r) r in
    record { most = λ o p. more_less (w.most o p) (mul-le-mul_right v2 (t r)) (mul-le-mul_right d2 (t r)) (mul-le-mul_right s2 (t r)) })

-- what the bounds say of an answer
pub answer_within : {v d s : ℕ} {g : Prog Answer} (a : List Float) → Within v d s g → More v d s fresh (answer_of a g).progress
unfolding answer_of
answer_within a w = w.most (oracle a) fresh

-- ---- room for what a program counts

pub within_room : {v d s : ℕ} {A : Type 0} {g : Prog A} {j k : ℕ} {p : Progress} (o : Oracle) → Within v d s g → v ≤ 3 → d ≤ 3 → s ≤ 3 → k + 3 ≤ j → Room j p → Room k (play tallied o g p).1
within_room {p = p} o w hv hd hs h r =
    let m = w.most o p in let a = m.values in let b = m.derivatives in let c = m.steps in
    let x = r.values in let y = r.derivatives in let z = r.steps in
    record { steps = omega arith; values = omega arith; derivatives = omega arith }
