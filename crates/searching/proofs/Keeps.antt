-- What holds where a program ends, with its history: one rule for each word of the language, and one for a whole search.
use Prim.Native.Nat.{ℕ, zero, suc}
use Rattle.std.specs.Prelude.{Bool, List, [], ◌∷◌, ◌≡◌, Float}
use Rattle.std.proofs.Math.Bool.{true, false}
use Rattle.std.proofs.Math.Path.{refl}
use Rattle.std.proofs.Common.{subst}
use Rattle.std.specs.Float.Ieee.Scale.{finite}
use Rattle.doubles.specs.Doubles.{outside, pulled, same_sign}
use Rattle.numerical.specs.declared.Answer.{Answer}
use Rattle.numerical.specs.declared.Answer.TheVariants.{Refused}
use Rattle.numerical.specs.declared.Interval.{Interval}
use Rattle.numerical.specs.declared.Progress.{Progress}
use Rattle.numerical.specs.declared.Sample.{Sample}
use Rattle.simple_convergency.specs.declared.StopRule.{StopRule}
use Rattle.polynom.specs.declared.ValueAndDerivative.{ValueAndDerivative}
use Rattle.std.specs.Prelude.{Option, Some, None}
use Rattle.searching.specs.Programs.{Test, holds, alike, Note, tested, candidate, ruled, paired, stepped, Prog, done, log, Turned, ended, next, bind, test, stops, sampled, sampled_both, value_at, both_at, offered, pulled_into, product_departs, bracketed, steps_to, narrows_to, run, searches, Oracle, Event, asked, asked_both, noted, play, tallied}
use Rattle.searching.specs.Histories.{listed}
use Rattle.searching.proofs.ProgramLaws.{play_bind, play_end}
use Rattle.searching.specs.Keeps.{Ends, After}

module _ {A : Type 0} {o : Oracle} {Q : A → List Event → Type 0} {h : List Event} where
  pub ends_done : {a : A} → Q a h → Ends o Q (done a) h
  unfolding play
  ends_done q = record { there = q }

  pub ends_log : {g : Prog A} (n : Note) → Ends o Q g (noted n ∷ h) → Ends o Q (log n g) h
  unfolding play
  ends_log n q = record { there = q.there }

  pub ends_test : {f g : Prog A} (b : Bool) → (b ≡ true → Ends o Q f h) → (b ≡ false → Ends o Q g h) → Ends o Q (test b f g) h
  unfolding test
  ends_test true p q = p refl
  ends_test false p q = q refl

  pub ends_stops :
      {f g : Prog A} (stop : StopRule) (t : Test) →
      (holds stop t ≡ true → Ends o Q f (noted (tested t true) ∷ h)) →
      (holds stop t ≡ false → Ends o Q g (noted (tested t false) ∷ h)) →
      Ends o Q (stops stop t f g) h
  unfolding stops test play
  ends_stops {f} {g} stop t p q = record { there = go (holds stop t) refl }
    where
      go : (b : Bool) → holds stop t ≡ b → Q (play listed o (test b f g) (noted (tested t b) ∷ h)).0 (play listed o (test b f g) (noted (tested t b) ∷ h)).1
      go true e = (p e).there
      go false e = (q e).there

  pub ends_pulled : (k : Float → Prog A) (u v x : Float) → Ends o Q (k (pulled u v x)) (noted (ruled 2 (outside u v x)) ∷ h) → Ends o Q (pulled_into u v x k) h
  unfolding pulled_into play
  ends_pulled k u v x q = record { there = q.there }

-- a test of either kind, for `search`
pub ruleset branches = (ends_test, ends_stops)

module _ {S : Type 0} {o : Oracle} {Q : Turned S → List Event → Type 0} {h : List Event} where
  pub ends_value :
      {k : Sample → Prog (Turned S)} (x : Float) →
      (o.value x ≡ None → Q (ended (Refused 9)) (asked x None ∷ h)) →
      ((p : Sample) → o.value x ≡ Some p → Ends o Q (k p) (asked x (Some p) ∷ h)) →
      Ends o Q (value_at x k) h
  unfolding value_at sampled play
  ends_value {k} x p q = record { there = go (o.value x) refl }
    where
      go : (e : Option Sample) → o.value x ≡ e → Q (play listed o (sampled e k) (asked x e ∷ h)).0 (play listed o (sampled e k) (asked x e ∷ h)).1
      go None e = p e
      go (Some s) e = (q s e).there

  pub ends_both :
      {k : ValueAndDerivative → Prog (Turned S)} (x : Float) →
      (o.both x ≡ None → Q (ended (Refused 9)) (asked_both x None ∷ h)) →
      ((v : ValueAndDerivative) → o.both x ≡ Some v → Ends o Q (k v) (asked_both x (Some v) ∷ h)) →
      Ends o Q (both_at x k) h
  unfolding both_at sampled_both play
  ends_both {k} x p q = record { there = go (o.both x) refl }
    where
      go : (e : Option ValueAndDerivative) → o.both x ≡ e → Q (play listed o (sampled_both e k) (asked_both x e ∷ h)).0 (play listed o (sampled_both e k) (asked_both x e ∷ h)).1
      go None e = p e
      go (Some v) e = (q v e).there

  pub ends_offered :
      (k : Float → Prog (Turned S)) (x : Float) →
      (finite x ≡ false → Q (ended (Refused 9)) (noted (candidate x) ∷ h)) →
      (finite x ≡ true → Ends o Q (k x) (noted (candidate x) ∷ h)) →
      Ends o Q (offered x k) h
  unfolding offered
  ends_offered k x p q = ends_log (candidate x) (ends_test (finite x) q (λ e. ends_done (p e)))

  pub ends_bracketed :
      (s : S) (stop : StopRule) (p q : Sample) →
      (same_sign p.y q.y ≡ true → Q (ended (Refused 6)) (noted (tested (alike p q) true) ∷ noted (ruled 1 (product_departs p q)) ∷ h)) →
      (same_sign p.y q.y ≡ false → Q (next s) (noted (paired (record { begin = p; end = q })) ∷ noted (tested (alike p q) false) ∷ noted (ruled 1 (product_departs p q)) ∷ h)) →
      Ends o Q (bracketed stop p q s) h
  unfolding bracketed
  ends_bracketed s stop p q f g = ends_log _ (ends_stops stop (alike p q) (λ e. ends_done (f e)) (λ e. ends_log _ (ends_done (g e))))

  pub ends_steps : (s : S) → Q (next s) (noted stepped ∷ h) → Ends o Q (steps_to s) h
  unfolding steps_to play
  ends_steps s q = record { there = q }

  pub ends_narrows : (s : S) (pair : S → Interval) → Q (next s) (noted stepped ∷ noted (paired (pair s)) ∷ h) → Ends o Q (narrows_to pair s) h
  unfolding narrows_to play
  ends_narrows s pair q = record { there = q }

-- ---- whole searches

-- the book of tallies ends where the list does
pub ends_tallied : {A : Type 0} {o : Oracle} {Q : A → List Event → Type 0} {g : Prog A} {h : List Event} (p : Progress) → Ends o Q g h → Q (play tallied o g p).0 (play listed o g h).1
ends_tallied {A} {o} {Q} {g} {h} p e = subst (λ (a : A). Q a (play listed o g h).1) (play_end listed tallied o g h p) e.there

module _ {S : Type 0} {o : Oracle} (turn : S → Prog (Turned S)) (Inv : ℕ → S → List Event → Type 0) (Post : Answer → List Event → Type 0) where
  -- with n turns left
  pub ends_run_lem :
      ((n : ℕ) (s : S) (h : List Event) → Inv (suc n) s h → Ends o (After (Inv n) Post) (turn s) h) →
      ((s : S) (h : List Event) → Inv zero s h → Post (Refused 8) h) →
      (n : ℕ) (r : Turned S) (h : List Event) → After (Inv n) Post r h → Ends o Post (run turn n r) h
  unfolding run play
  ends_run_lem f out zero (ended a) h q = record { there = q }
  ends_run_lem f out zero (next s) h q = record { there = out s h q }
  ends_run_lem f out (suc n) (ended a) h q = record { there = q }
  ends_run_lem f out (suc n) (next s) h q =
      record { there = rw play_bind (ends_run_lem f out n (play listed o (turn s) h).0 (play listed o (turn s) h).1 (f n s h q).there).there }

-- one program after another
pub ends_bind :
    {A B : Type 0} {o : Oracle} {R : A → List Event → Type 0} {Q : B → List Event → Type 0} {g : Prog A} {k : A → Prog B} {h : List Event} →
    Ends o R g h → ((a : A) (h2 : List Event) → R a h2 → Ends o Q (k a) h2) → Ends o Q (bind g k) h
ends_bind {o = o} {g = g} {k = k} {h = h} e f =
    record { there = rw play_bind (f (play listed o g h).0 (play listed o g h).1 e.there).there }

-- an opening, and then the turns that are left after it
pub ends_searches :
    {S : Type 0} {o : Oracle} {opening : Prog (Turned S)} (turns : Turned S → ℕ) (turn : S → Prog (Turned S)) (Inv : ℕ → S → List Event → Type 0) (Post : Answer → List Event → Type 0) →
    Ends o (After (λ s h. Inv (turns (next s)) s h) Post) opening [] →
    ((n : ℕ) (s : S) (h : List Event) → Inv (suc n) s h → Ends o (After (Inv n) Post) (turn s) h) →
    ((s : S) (h : List Event) → Inv zero s h → Post (Refused 8) h) →
    Ends o Post (searches opening turns turn) []
unfolding searches
ends_searches {S} {o} {opening} turns turn Inv Post e f out = ends_bind e (λ r h q. ends_run_lem turn Inv Post f out (turns r) r h (same r h q))
  where
    same : (r : Turned S) (h : List Event) → After (λ s h. Inv (turns (next s)) s h) Post r h → After (Inv (turns r)) Post r h
    same (ended a) h q = q
    same (next s) h q = q
