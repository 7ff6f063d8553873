-- One law for each word of the language: what the code did there gives what the definition says. They hold for every method.
use Rattle.std.specs.Prelude.{ℕ, Bool, List, ◌≡◌, Float}
use Rattle.std.proofs.Math.Bool.{true, false, cond}
use Rattle.std.proofs.Math.Path.{refl}
use Rattle.std.proofs.Common.{◌∙◌, ap, sym}
use Rattle.std.specs.Float.Ieee.{lt}
use Rattle.std.specs.Float.Ieee.Scale.{finite}
use Rattle.doubles.specs.Doubles.{outside, pulled, same_sign}
use Rattle.numerical.specs.Tallies.{valued_of, sloped_of, stepped_of, ruled_of}
use Rattle.numerical.specs.declared.Answer.TheVariants.{Refused}
use Rattle.numerical.specs.declared.Interval.{Interval}
use Rattle.numerical.specs.declared.Progress.{Progress}
use Rattle.numerical.specs.declared.Sample.{Sample}
use Rattle.simple_convergency.specs.declared.StopRule.{StopRule}
use Rattle.polynom.specs.Polynom.{evaluated, evaluated_both}
use Rattle.polynom.specs.declared.ValueAndDerivative.{ValueAndDerivative}
use Rattle.std.specs.Prelude.{Option, Some, None}
use Rattle.searching.specs.Programs.{Test, ruled, Prog, done, log, Turned, ended, next, test, holds, stops, sampled, sampled_both, value_at, both_at, offered, pulled_into, rising, product_departs, bracketed, steps_to, narrows_to, oracle, play, tallied}
use Rattle.searching.specs.Rules.{placed_in, alike_by, in_order}
use Rattle.searching.specs.declared.Placed.{Placed}
use Rattle.searching.specs.declared.Decided.{Decided}
use Rattle.searching.specs.declared.Starts.{Starts}

-- the code stands at r where the definition, from the progress p on, is to be played
module _ {A : Type 0} (cs : List Float) (p : Progress) {r : A × Progress} where
  pub by_done : (a : A) → r ≡ (a, p) → r ≡ play tallied (oracle cs) (done a) p
  unfolding play
  by_done a e = e

  pub by_true : {f : Bool} (b : Bool) (g h : Prog A) → f ≡ b → f ≡ true → r ≡ play tallied (oracle cs) g p → r ≡ play tallied (oracle cs) (test b g h) p
  unfolding test
  by_true b g h e t k = rw (← e, t) k

  pub by_false : {f : Bool} (b : Bool) (g h : Prog A) → f ≡ b → f ≡ false → r ≡ play tallied (oracle cs) h p → r ≡ play tallied (oracle cs) (test b g h) p
  unfolding test
  by_false b g h e t k = rw (← e, t) k

  pub by_held : {f : Bool} (stop : StopRule) (t : Test) (g h : Prog A) → f ≡ holds stop t → f ≡ true → r ≡ play tallied (oracle cs) g p → r ≡ play tallied (oracle cs) (stops stop t g h) p
  unfolding stops play
  by_held stop t g h e y k = by_true (holds stop t) g h e y k

  pub by_missed : {f : Bool} (stop : StopRule) (t : Test) (g h : Prog A) → f ≡ holds stop t → f ≡ false → r ≡ play tallied (oracle cs) h p → r ≡ play tallied (oracle cs) (stops stop t g h) p
  unfolding stops play
  by_missed stop t g h e y k = by_false (holds stop t) g h e y k

  pub by_rule :
      {q : Progress} {f : Bool} (n : ℕ) (b : Bool) (g : Prog A) →
      f ≡ b → q ≡ ruled_of n f p → r ≡ play tallied (oracle cs) g q → r ≡ play tallied (oracle cs) (log (ruled n b) g) p
  unfolding play
  by_rule n b g f q k = k ∙ rw (q, f) refl

  pub by_pulled :
      {q : Progress} {f : Bool} {y : Float} (u v x : Float) (k : Float → Prog A) →
      f ≡ outside u v x → q ≡ ruled_of 2 f p → y ≡ pulled u v x → r ≡ play tallied (oracle cs) (k y) q → r ≡ play tallied (oracle cs) (pulled_into u v x k) p
  unfolding pulled_into play
  by_pulled u v x k f q y g = g ∙ rw (q, f, y) refl

  pub by_placed :
      {w : Placed} (u v x : Float) (k : Float → Prog A) →
      w ≡ placed_in u v x p → r ≡ play tallied (oracle cs) (k w.x) w.progress → r ≡ play tallied (oracle cs) (pulled_into u v x k) p
  unfolding pulled_into play
  by_placed u v x k e g = g ∙ rw e refl

  pub by_alike :
      {w : Decided} (a b : Sample) (g : Prog A) →
      w ≡ alike_by a b p → r ≡ play tallied (oracle cs) g w.progress → r ≡ play tallied (oracle cs) (log (ruled 1 (product_departs a b)) g) p
  unfolding play
  by_alike a b g e k = k ∙ rw e refl

module _ {S : Type 0} (cs : List Float) (p : Progress) {r : Turned S × Progress} where
  pub by_value :
      {q : Progress} {e : Option Sample} {s : Sample} (x : Float) (k : Sample → Prog (Turned S)) →
      q ≡ valued_of p → e ≡ evaluated cs x → e ≡ Some s → r ≡ play tallied (oracle cs) (k s) q → r ≡ play tallied (oracle cs) (value_at x k) p
  unfolding value_at sampled play
  by_value x k q e s g = g ∙ rw q (ap (λ (v : Option Sample). play tallied (oracle cs) (sampled v k) (valued_of p)) (sym s ∙ e))

  pub by_no_value :
      {q : Progress} {e : Option Sample} (x : Float) (k : Sample → Prog (Turned S)) →
      q ≡ valued_of p → e ≡ evaluated cs x → e ≡ None → r ≡ (ended (Refused 9), q) → r ≡ play tallied (oracle cs) (value_at x k) p
  unfolding value_at sampled play
  by_no_value x k q e s g = g ∙ rw q (ap (λ (v : Option Sample). play tallied (oracle cs) (sampled v k) (valued_of p)) (sym s ∙ e))

  pub by_value_at :
      {q : Progress} {e : Option Sample} {s : Sample} {y : Float} (x : Float) (k : Sample → Prog (Turned S)) →
      q ≡ valued_of p → e ≡ evaluated cs y → e ≡ Some s → y ≡ x → r ≡ play tallied (oracle cs) (k s) q → r ≡ play tallied (oracle cs) (value_at x k) p
  by_value_at x k q e s y g = by_value x k q (e ∙ ap (evaluated cs) y) s g

  pub by_no_value_at :
      {q : Progress} {e : Option Sample} {y : Float} (x : Float) (k : Sample → Prog (Turned S)) →
      q ≡ valued_of p → e ≡ evaluated cs y → e ≡ None → y ≡ x → r ≡ (ended (Refused 9), q) → r ≡ play tallied (oracle cs) (value_at x k) p
  by_no_value_at x k q e s y g = by_no_value x k q (e ∙ ap (evaluated cs) y) s g

  pub by_both :
      {q : Progress} {e : Option ValueAndDerivative} {s : ValueAndDerivative} (x : Float) (k : ValueAndDerivative → Prog (Turned S)) →
      q ≡ sloped_of p → e ≡ evaluated_both cs x → e ≡ Some s → r ≡ play tallied (oracle cs) (k s) q → r ≡ play tallied (oracle cs) (both_at x k) p
  unfolding both_at sampled_both play
  by_both x k q e s g = g ∙ rw q (ap (λ (v : Option ValueAndDerivative). play tallied (oracle cs) (sampled_both v k) (sloped_of p)) (sym s ∙ e))

  pub by_not_both :
      {q : Progress} {e : Option ValueAndDerivative} (x : Float) (k : ValueAndDerivative → Prog (Turned S)) →
      q ≡ sloped_of p → e ≡ evaluated_both cs x → e ≡ None → r ≡ (ended (Refused 9), q) → r ≡ play tallied (oracle cs) (both_at x k) p
  unfolding both_at sampled_both play
  by_not_both x k q e s g = g ∙ rw q (ap (λ (v : Option ValueAndDerivative). play tallied (oracle cs) (sampled_both v k) (sloped_of p)) (sym s ∙ e))

  pub by_offer :
      {f : Bool} {y : Float} (x : Float) (k : Float → Prog (Turned S)) →
      f ≡ finite y → f ≡ true → y ≡ x → r ≡ play tallied (oracle cs) (k y) p → r ≡ play tallied (oracle cs) (offered x k) p
  unfolding offered test play
  by_offer x k f t y g = g ∙ rw (← y, ← f, t) refl

  pub by_no_offer :
      {f : Bool} {y : Float} (x : Float) (k : Float → Prog (Turned S)) →
      f ≡ finite y → f ≡ false → y ≡ x → r ≡ (ended (Refused 9), p) → r ≡ play tallied (oracle cs) (offered x k) p
  unfolding offered test play
  by_no_offer x k f t y g = g ∙ rw (← y, ← f, t) refl

  -- the definition decides the order of the starts, and the code has decided it
  pub by_rising :
      {w : Starts} (a b : Float) (k : Float → Float → Prog (Turned S)) →
      w ≡ in_order a b → r ≡ play tallied (oracle cs) (k w.first w.second) p → r ≡ play tallied (oracle cs) (rising a b k) p
  unfolding rising test
  by_rising {w} a b k = either (lt b a)
    where
      either :
          (t : Bool) → w ≡ cond t (record { first = b; second = a }) (record { first = a; second = b }) →
          r ≡ play tallied (oracle cs) (k w.first w.second) p → r ≡ play tallied (oracle cs) (test t (k b a) (k a b)) p
      either true e g = g ∙ rw e refl
      either false e g = g ∙ rw e refl

  pub by_next : {i : S} (s : S) → i ≡ s → r ≡ (next i, p) → r ≡ play tallied (oracle cs) (done (next s)) p
  unfolding play
  by_next s e g = g ∙ rw e refl

  pub by_step : {q : Progress} (s : S) → q ≡ stepped_of p → r ≡ (next s, q) → r ≡ play tallied (oracle cs) (steps_to s) p
  unfolding steps_to play
  by_step s q g = g ∙ rw q refl

  pub by_step_to : {i : S} {q : Progress} (s : S) → i ≡ s → q ≡ stepped_of p → r ≡ (next i, q) → r ≡ play tallied (oracle cs) (steps_to s) p
  by_step_to s e q g = by_step s q (g ∙ rw e refl)

  pub by_narrow : {q : Progress} (pair : S → Interval) (s : S) → q ≡ stepped_of p → r ≡ (next s, q) → r ≡ play tallied (oracle cs) (narrows_to pair s) p
  unfolding narrows_to play
  by_narrow pair s q g = g ∙ rw q refl

  pub by_narrow_to : {i : S} {q : Progress} (pair : S → Interval) (s : S) → i ≡ s → q ≡ stepped_of p → r ≡ (next i, q) → r ≡ play tallied (oracle cs) (narrows_to pair s) p
  by_narrow_to pair s e q g = by_narrow pair s q (g ∙ rw e refl)

  pub by_bracket :
      {q : Progress} {d f : Bool} (stop : StopRule) (a b : Sample) (s : S) →
      d ≡ product_departs a b → q ≡ ruled_of 1 d p → f ≡ same_sign a.y b.y → f ≡ false → r ≡ (next s, q) → r ≡ play tallied (oracle cs) (bracketed stop a b s) p
  unfolding bracketed stops test play
  by_bracket stop a b s d q f t g = g ∙ rw (q, d, ← f, t) refl

  pub by_bracket_to :
      {q : Progress} {d f : Bool} {i : S} (stop : StopRule) (a b : Sample) (s : S) →
      d ≡ product_departs a b → q ≡ ruled_of 1 d p → f ≡ same_sign a.y b.y → f ≡ false → i ≡ s → r ≡ (next i, q) → r ≡ play tallied (oracle cs) (bracketed stop a b s) p
  by_bracket_to stop a b s d q f t e g = by_bracket stop a b s d q f t (g ∙ rw e refl)

  pub by_no_bracket :
      {q : Progress} {d f : Bool} (stop : StopRule) (a b : Sample) (s : S) →
      d ≡ product_departs a b → q ≡ ruled_of 1 d p → f ≡ same_sign a.y b.y → f ≡ true → r ≡ (ended (Refused 6), q) → r ≡ play tallied (oracle cs) (bracketed stop a b s) p
  unfolding bracketed stops test play
  by_no_bracket stop a b s d q f t g = g ∙ rw (q, d, ← f, t) refl

  pub by_bracket_decided :
      {w : Decided} (stop : StopRule) (a b : Sample) (s : S) →
      w ≡ alike_by a b p → w.decision ≡ false → r ≡ (next s, w.progress) → r ≡ play tallied (oracle cs) (bracketed stop a b s) p
  by_bracket_decided stop a b s e f g = by_bracket stop a b s refl (ap (λ (w : Decided). w.progress) e) (ap (λ (w : Decided). w.decision) e) f g

  pub by_bracket_decided_to :
      {w : Decided} {i : S} (stop : StopRule) (a b : Sample) (s : S) →
      w ≡ alike_by a b p → w.decision ≡ false → i ≡ s → r ≡ (next i, w.progress) → r ≡ play tallied (oracle cs) (bracketed stop a b s) p
  by_bracket_decided_to stop a b s e f i g = by_bracket_decided stop a b s e f (g ∙ rw i refl)

  pub by_no_bracket_decided :
      {w : Decided} (stop : StopRule) (a b : Sample) (s : S) →
      w ≡ alike_by a b p → w.decision ≡ true → r ≡ (ended (Refused 6), w.progress) → r ≡ play tallied (oracle cs) (bracketed stop a b s) p
  by_no_bracket_decided stop a b s e f g = by_no_bracket stop a b s refl (ap (λ (w : Decided). w.progress) e) (ap (λ (w : Decided). w.decision) e) f g

-- all of them, for `search`
pub ruleset steps = (by_true, by_false, by_held, by_missed, by_rule, by_pulled, by_placed, by_alike, by_value, by_no_value, by_value_at, by_no_value_at, by_both, by_not_both, by_offer, by_no_offer, by_rising, by_next, by_step, by_step_to, by_narrow, by_narrow_to, by_bracket, by_bracket_to, by_no_bracket, by_bracket_decided, by_bracket_decided_to, by_no_bracket_decided, by_done)
