-- Given exactly when: an event that ends a run fixes the answer, and the answer has its cause in the history.
use Rattle.std.specs.Prelude.{ℕ, Bool, true, false, cond, not, List, ◌∷◌, ◌↔◌, ◌⊎◌, ◌≡◌, refl, eqb, Float}
use Rattle.std.proofs.Common.{arith, true≢false, inl, inr, ap, sym, ◌∙◌, subst}
use Rattle.std.proofs.lemmas.Bool.{false≢true}
use mathlib.Core.List.Memᴰ
use Rattle.std.specs.Float.Ieee.Scale.{finite}
use Rattle.numerical.specs.Answers.{kind_of}
use Rattle.numerical.specs.declared.Answer.{Answer}
use Rattle.numerical.specs.declared.Answer.TheVariants.{ByValue, ByWidth, Refused}
use Rattle.numerical.specs.declared.Sample.{Sample}
use Rattle.simple_convergency.specs.declared.StopRule.{StopRule}
use Rattle.std.specs.Prelude.{Some, None}
use Rattle.searching.specs.Programs.{Test, found, converged, flat, alike, holds, tested, candidate, ruled, paired, stepped, Event, asked, asked_both, noted}
use Rattle.searching.specs.Histories.{steps_in}
use Rattle.searching.specs.Reasons.{Occurs, ends_run, some_ends, CalledFor, SignsHeld, FlatHeld, NoneHeld, NotFiniteIn, EvaluatedAt, Reason, by_value, by_width, by_middle, of_signs, of_flatness, of_limit, of_value, of_derivative, of_candidate, of_middle}

-- ---- what ends a run fixes the answer

both_false : (b c : Bool) → cond b true c ≡ false → (b ≡ false) × (c ≡ false)
both_false true c e = absurd (true≢false e)
both_false false c e = (refl, e)

-- none of the events of a run that goes on ends it
quiet_at : (stop : StopRule) {e : Event} {h : List Event} → Occurs e h → some_ends stop h ≡ false → ends_run stop e ≡ false
unfolding some_ends
quiet_at stop (Memᴰ.head {x} {xs} p) q = ap (ends_run stop) p ∙ (both_false (ends_run stop x) (some_ends stop xs) q).0
quiet_at stop (Memᴰ.tail {x} {xs} m) q = quiet_at stop m (both_false (ends_run stop x) (some_ends stop xs) q).1

-- an event's note of a stop test says what the numbers compared say, and points are evaluated only where they are finite
abbrev Honest : StopRule → Event → Type 0
Honest stop (asked x e) = finite x ≡ true
Honest stop (asked_both x e) = finite x ≡ true
Honest stop (noted (tested t held)) = held ≡ holds stop t
Honest stop (noted (candidate x)) = Unit {0}
Honest stop (noted (ruled rule departed)) = Unit {0}
Honest stop (noted (paired i)) = Unit {0}
Honest stop (noted stepped) = Unit {0}

-- what is so of every event of a history with this answer: its note is honest, and if it ends a run, it calls for the answer
abbrev Says : StopRule → Answer → Event → Type 0
Says stop answer e = Honest stop e × (ends_run stop e ≡ true → CalledFor e answer)

not-false : (b : Bool) → not b ≡ false → b ≡ true
not-false true e = refl
not-false false e = absurd (true≢false e)

quiet_honest : (stop : StopRule) (e : Event) → ends_run stop e ≡ false → Honest stop e
quiet_honest stop (asked x (Some p)) q = not-false (finite x) q
quiet_honest stop (asked x None) q = absurd (true≢false q)
quiet_honest stop (asked_both x (Some v)) q = not-false (finite x) q
quiet_honest stop (asked_both x None) q = absurd (true≢false q)
quiet_honest stop (noted (tested t true)) q = absurd (true≢false q)
quiet_honest stop (noted (tested t false)) q = sym q
quiet_honest stop (noted (candidate x)) q = tt
quiet_honest stop (noted (ruled rule departed)) q = tt
quiet_honest stop (noted (paired i)) q = tt
quiet_honest stop (noted stepped) q = tt

-- what is so of the newest event and of those before it
newest : (P : Event → Type 0) (x : Event) {e : Event} {h : List Event} → P x → (Occurs e h → P e) → Occurs e (x ∷ h) → P e
newest P x p f m = elim (Memᴰ.cases_cons m) [ inl s ↦ subst P (sym s) p | inr l ↦ f l ]

module _ (stop : StopRule) (answer : Answer) where
  quiet_says : (e : Event) → ends_run stop e ≡ false → Says stop answer e
  quiet_says e q = (quiet_honest stop e q, λ z. absurd (false≢true (sym q ∙ z)))

  -- before the end nothing ended the run
  before : {e : Event} {h : List Event} → some_ends stop h ≡ false → Occurs e h → Says stop answer e
  before {e} q m = quiet_says e (quiet_at stop m q)

  -- a newest event that calls for the answer, or ends nothing
  calling : (x : Event) {e : Event} {h : List Event} → Honest stop x → CalledFor x answer → (Occurs e h → Says stop answer e) → Occurs e (x ∷ h) → Says stop answer e
  calling x p c = newest (Says stop answer) x (p, λ z. c)

  passing : (x : Event) {e : Event} {h : List Event} → ends_run stop x ≡ false → (Occurs e h → Says stop answer e) → Occurs e (x ∷ h) → Says stop answer e
  passing x q = newest (Says stop answer) x (quiet_says x q)

says : {a : List Float} {stop : StopRule} {most : ℕ} {answer : Answer} {h : List Event} → Reason a stop most answer h → (e : Event) → Occurs e h → Says stop answer e
says {stop = stop} {answer = answer} (by_value {p = p} t f g) e = calling stop answer (noted (tested (found p) true)) (sym f) refl (before stop answer g.undecided)
says {stop = stop} {answer = answer} (by_width {p = p} {q = q} z f g) e = calling stop answer (noted (tested (converged p q) true)) (sym f) (inl (_, refl)) (before stop answer g.undecided)
says {stop = stop} {answer = answer} (by_middle {p = p} {q = q} {x = x} z f n g) e =
    passing stop answer (noted (ruled 2 _)) refl
    (passing stop answer (noted (candidate x)) (rw n refl)
    (calling stop answer (noted (tested (converged p q) true)) (sym f) (inl (_, refl)) (before stop answer g.undecided)))
says {stop = stop} {answer = answer} (of_signs {p = p} {q = q} t u f g) e = calling stop answer (noted (tested (alike p q) true)) (sym f) refl (before stop answer g.undecided)
says {stop = stop} {answer = answer} (of_flatness {y = y} t f g) e = calling stop answer (noted (tested (flat y) true)) (sym f) refl (before stop answer g.undecided)
says {stop = stop} {answer = answer} (of_limit s q) e = before stop answer q
says {stop = stop} {answer = answer} (of_value {x = x} z n g) e = calling stop answer (asked x None) z refl (before stop answer g.undecided)
says {stop = stop} {answer = answer} (of_derivative {x = x} z n g) e = calling stop answer (asked_both x None) z refl (before stop answer g.undecided)
says {stop = stop} {answer = answer} (of_candidate {x = x} n g) e = calling stop answer (noted (candidate x)) tt refl (before stop answer g.undecided)
says {stop = stop} {answer = answer} (of_middle {x = x} {p = p} {q = q} n f g) e =
    calling stop answer (noted (candidate x)) tt refl
    (calling stop answer (noted (tested (converged p q) true)) (sym f) (inr refl) (before stop answer g.undecided))

module _ {a : List Float} {stop : StopRule} {most : ℕ} {answer : Answer} {h : List Event} (r : Reason a stop most answer h) where
  -- an event that ends a run calls for the answer
  pub decided : (e : Event) → Occurs e h → ends_run stop e ≡ true → CalledFor e answer
  decided e m = (says r e m).1

  -- a stop test is noted as its numbers say
  pub tests_honest : (t : Test) (held : Bool) → Occurs (noted (tested t held)) h → held ≡ holds stop t
  tests_honest t held m = (says r (noted (tested t held)) m).0

  -- every point evaluated is finite
  pub points_finite : (x : Float) → EvaluatedAt x h → finite x ≡ true
  points_finite x (inl t) = (says r (asked x t.0) t.1).0
  points_finite x (inr t) = (says r (asked_both x t.0) t.1).0

-- ---- the answer has its cause in the history

newest_one : {e : Event} {h : List Event} → Occurs e (e ∷ h)
newest_one = Memᴰ.head refl

-- the events that an answer rests on
abbrev Cause : StopRule → ℕ → Answer → List Event → Type 0
Cause stop most (ByValue root y) h = Occurs (noted (tested (found (record { x = root; y = y })) true)) h
Cause stop most (ByWidth root p q) h = Occurs (noted (tested (converged p q) true)) h
Cause stop most (Refused n) h = cond (eqb n 6) (SignsHeld h) (cond (eqb n 7) (FlatHeld h) (cond (eqb n 8) ((steps_in h ≡ most) × NoneHeld stop h) (NotFiniteIn h)))

-- where nothing ended the run no stop test held
none_held : (stop : StopRule) (h : List Event) → some_ends stop h ≡ false → NoneHeld stop h
none_held stop h q t held m = (both_false held (holds stop t) (quiet_at stop m q)).1

cause : {a : List Float} {stop : StopRule} {most : ℕ} {answer : Answer} {h : List Event} → Reason a stop most answer h → Cause stop most answer h
cause (by_value t f g) = newest_one
cause (by_width z f g) = newest_one
cause (by_middle z f n g) = Memᴰ.tail (Memᴰ.tail newest_one)
cause (of_signs t u f g) = (_, _, newest_one)
cause (of_flatness t f g) = (_, newest_one)
cause {stop = stop} {h = h} (of_limit s q) = (s, none_held stop h q)
cause (of_value z n g) = (_, inl newest_one)
cause (of_derivative z n g) = (_, inr (inl newest_one))
cause (of_candidate n g) = (_, inr (inr (newest_one, n)))
cause (of_middle n f g) = (_, inr (inr (newest_one, n)))

-- only 8 comes at the limit
at_limit : {a : List Float} {stop : StopRule} {most : ℕ} {answer : Answer} {h : List Event} → Reason a stop most answer h → steps_in h ≡ most → answer ≡ Refused 8
unfolding steps_in
at_limit (by_value t f g) s = absurd (omega (arith, g.below, s))
at_limit (by_width z f g) s = absurd (omega (arith, g.below, s))
at_limit (by_middle z f n g) s = absurd (omega (arith, g.below, s))
at_limit (of_signs t u f g) s = absurd (omega (arith, g.below, s))
at_limit (of_flatness t f g) s = absurd (omega (arith, g.below, s))
at_limit (of_limit t q) s = refl
at_limit (of_value z n g) s = absurd (omega (arith, g.below, s))
at_limit (of_derivative z n g) s = absurd (omega (arith, g.below, s))
at_limit (of_candidate n g) s = absurd (omega (arith, g.below, s))
at_limit (of_middle n f g) s = absurd (omega (arith, g.below, s))

-- ---- exactly when

module _ {a : List Float} {stop : StopRule} {most : ℕ} {answer : Answer} {h : List Event} (r : Reason a stop most answer h) where
  cause_of : (x : Answer) → answer ≡ x → Cause stop most x h
  cause_of x e = subst (λ (y : Answer). Cause stop most y h) e (cause r)

  -- what isn't finite is refused with 9
  not_finite_nine : NotFiniteIn h → answer ≡ Refused 9
  not_finite_nine (x, inl m) = decided r (asked x None) m refl
  not_finite_nine (x, inr (inl m)) = decided r (asked_both x None) m refl
  not_finite_nine (x, inr (inr t)) = decided r (noted (candidate x)) t.0 (rw t.1 refl)

  pub exactly_six : (answer ≡ Refused 6) ↔ SignsHeld h
  exactly_six = (cause_of (Refused 6), λ t. decided r (noted (tested (alike t.0 t.1) true)) t.2 refl)

  pub exactly_seven : (answer ≡ Refused 7) ↔ FlatHeld h
  exactly_seven = (cause_of (Refused 7), λ t. decided r (noted (tested (flat t.0) true)) t.1 refl)

  pub exactly_eight : (answer ≡ Refused 8) ↔ ((steps_in h ≡ most) × NoneHeld stop h)
  exactly_eight = (cause_of (Refused 8), λ t. at_limit r t.0)

  pub exactly_nine : (answer ≡ Refused 9) ↔ NotFiniteIn h
  exactly_nine = (cause_of (Refused 9), not_finite_nine)

  pub exactly_by_value : (p : Sample) → (answer ≡ ByValue p.x p.y) ↔ Occurs (noted (tested (found p) true)) h
  exactly_by_value p = (cause_of (ByValue p.x p.y), λ m. decided r (noted (tested (found p) true)) m refl)

  pub exactly_by_width : (p q : Float) → ((root : Float) × (answer ≡ ByWidth root p q)) ↔ (Occurs (noted (tested (converged p q) true)) h × ¬ NotFiniteIn h)
  exactly_by_width p q = (λ t. (cause_of (ByWidth t.0 p q) t.1, λ n. other (sym t.1 ∙ not_finite_nine n)), λ t. home t.1 (decided r (noted (tested (converged p q) true)) t.0 refl))
    where
      other : {root : Float} → ByWidth root p q ≡ Refused 9 → ⊥
      other e = omega (arith, ap kind_of e)

      home : ¬ NotFiniteIn h → ((root : Float) × (answer ≡ ByWidth root p q)) ⊎ (answer ≡ Refused 9) → (root : Float) × (answer ≡ ByWidth root p q)
      home n (inl t) = t
      home n (inr e) = absurd (n (exactly_nine.0 e))
