-- Refusals 1 to 5: the definition's tests say what document 01 says in words.
use Rattle.std.specs.Prelude.{ℕ, ◌<◌, Bool, cond, ◌⊎◌, ◌≡◌, eqb, length, Float}
use Rattle.std.proofs.Common.{arith, true≢false, ap, sym, ◌∙◌, eqb-true, ltb-true, ltb-false}
use Rattle.std.proofs.Math.Bool.{true, false}
use mathlib.Core.List.{List, [], ◌∷◌, Memᴰ}
use Rattle.std.proofs.Math.Logic.{inl, inr}
use Rattle.std.proofs.Math.Path.{refl}
use Rattle.std.proofs.Math.Dec.{ltb}
use Rattle.std.proofs.lemmas.Bool.{eqb-false}
use Rattle.std.specs.Float.Ieee.{lt}
use Rattle.std.specs.Float.Ieee.Scale.{finite}
use Rattle.simple_convergency.specs.Stop.{least_tolerance, greatest_limit, most_coefficients, bad_tolerance, either_bad}
use Rattle.simple_convergency.specs.declared.Tolerances.{Tolerances}
use Rattle.roots.proofs.CallLaws.{first_of}
use Rattle.roots.specs.Calls.{bad_count, all_finite, starts_of}
use Rattle.roots.specs.declared.Method.{Method}
use Rattle.promises.specs.Searches.{BadCount, SomeNotFinite, BadTolerance, EitherBad, Early, one, two, three, four, five, Passes}
use Rattle.promises.specs.EarlyLaws.{Tells, at_once}

module _ {P : Type 0} {b : Bool} (t : Tells P b) where
  pub is_so : P → b ≡ true
  is_so p = go b refl
    where
      go : (c : Bool) → b ≡ c → b ≡ true
      go true e = e
      go false e = absurd (t.no e p)

  pub is_not : ¬ P → b ≡ false
  is_not n = go b refl
    where
      go : (c : Bool) → b ≡ c → b ≡ false
      go true e = absurd (n (t.yes e))
      go false e = e

-- ---- each of the five

pub tells_count : (a : List Float) → Tells (BadCount a) (bad_count (length a))
unfolding bad_count
tells_count a = record { yes = yes (eqb (length a) 0) refl; no = no (eqb (length a) 0) refl }
  where
    yes : (b : Bool) → eqb (length a) 0 ≡ b → cond b true (ltb most_coefficients (length a)) ≡ true → BadCount a
    yes true e k = inl (eqb-true (length a) 0 e)
    yes false e k = inr (ltb-true most_coefficients (length a) k)

    no : (b : Bool) → eqb (length a) 0 ≡ b → cond b true (ltb most_coefficients (length a)) ≡ false → ¬ BadCount a
    no true e k bad = true≢false k
    no false e k (inl z) = eqb-false (length a) 0 e z
    no false e k (inr l) = absurd (omega (arith, ltb-false most_coefficients (length a) k, l))

some_not : (l : List Float) → all_finite l ≡ false → SomeNotFinite l
unfolding all_finite
some_not [] e = absurd (true≢false e)
some_not (x ∷ rest) e = go (finite x) refl e (some_not rest)
  where
    go : (b : Bool) → finite x ≡ b → cond b (all_finite rest) false ≡ false → (all_finite rest ≡ false → SomeNotFinite rest) → SomeNotFinite (x ∷ rest)
    go true f e k = let s = k e in (s.0, Memᴰ.tail s.1, s.2)
    go false f e k = (x, Memᴰ.head refl, f)

each_finite : (l : List Float) (x : Float) → Memᴰ x l → all_finite l ≡ true → finite x ≡ true
each_finite (y ∷ rest) x (Memᴰ.head p) e = ap finite p ∙ (first_of y rest e).0
each_finite (y ∷ rest) x (Memᴰ.tail k) e = each_finite rest x k (first_of y rest e).1
each_finite [] x x4 e = elim x4 [ ]

-- the test of finiteness holds where nothing is bad
pub tells_finite : (l : List Float) → Tells (¬ SomeNotFinite l) (all_finite l)
tells_finite l = record { yes = λ e s. true≢false (sym (each_finite l s.0 s.1 e) ∙ s.2); no = λ e n. n (some_not l e) }

all_finite_lem : (l : List Float) → SomeNotFinite l → all_finite l ≡ false
all_finite_lem l s = is_not (tells_finite l) (λ n. n s)

pub tells_tolerance : (x : Float) → Tells (BadTolerance x) (bad_tolerance x)
unfolding bad_tolerance
tells_tolerance x = record { yes = yes (finite x) refl; no = no (finite x) refl }
  where
    yes : (b : Bool) → finite x ≡ b → cond b (lt x least_tolerance) true ≡ true → BadTolerance x
    yes true e k = inr k
    yes false e k = inl e

    no : (b : Bool) → finite x ≡ b → cond b (lt x least_tolerance) true ≡ false → ¬ BadTolerance x
    no true e k (inl f) = true≢false (sym e ∙ f)
    no true e k (inr f) = true≢false (sym f ∙ k)
    no false e k bad = true≢false k

pub tells_tolerances : (tolerances : Tolerances) → Tells (EitherBad tolerances) (either_bad tolerances)
unfolding either_bad
tells_tolerances tolerances = record { yes = yes (bad_tolerance tolerances.value) refl; no = no (bad_tolerance tolerances.value) refl }
  where
    yes : (b : Bool) → bad_tolerance tolerances.value ≡ b → cond b true (bad_tolerance tolerances.point) ≡ true → EitherBad tolerances
    yes true e k = inl ((tells_tolerance tolerances.value).yes e)
    yes false e k = inr ((tells_tolerance tolerances.point).yes k)

    no : (b : Bool) → bad_tolerance tolerances.value ≡ b → cond b true (bad_tolerance tolerances.point) ≡ false → ¬ EitherBad tolerances
    no true e k bad = true≢false k
    no false e k (inl v) = (tells_tolerance tolerances.value).no e v
    no false e k (inr p) = (tells_tolerance tolerances.point).no k p

pub tells_limit : (limit : ℕ) → Tells (greatest_limit < limit) (ltb greatest_limit limit)
tells_limit limit = record { yes = ltb-true greatest_limit limit; no = λ e l. omega (arith, ltb-false greatest_limit limit e, l) }

-- ---- the first of them

module _ (a : List Float) (m : Method) (tolerances : Tolerances) (limit : ℕ) where
  pub early_at_once : {n : ℕ} → Early a m tolerances limit n → at_once a m tolerances limit ≡ n
  unfolding at_once
  early_at_once (one b) = rw (is_so (tells_count a) b) refl
  early_at_once (two c b) = rw (is_not (tells_count a) c, all_finite_lem a b) refl
  early_at_once (three c f b) = rw (is_not (tells_count a) c, is_so (tells_finite a) f, all_finite_lem (starts_of m) b) refl
  early_at_once (four c f s b) = rw (is_not (tells_count a) c, is_so (tells_finite a) f, is_so (tells_finite (starts_of m)) s, is_so (tells_tolerances tolerances) b) refl
  early_at_once (five c f s e b) = rw (is_not (tells_count a) c, is_so (tells_finite a) f, is_so (tells_finite (starts_of m)) s, is_not (tells_tolerances tolerances) e, is_so (tells_limit limit) b) refl

  pub passes_at_once : Passes a m tolerances limit → at_once a m tolerances limit ≡ 0
  unfolding at_once
  passes_at_once p =
      rw (is_not (tells_count a) p.good_count, is_so (tells_finite a) p.good_coefficients, is_so (tells_finite (starts_of m)) p.good_starts, is_not (tells_tolerances tolerances) p.good_tolerances, is_not (tells_limit limit) p.good_limit) refl

  -- every call is refused with one of them, or passes
  pub at_once_early : Early a m tolerances limit (at_once a m tolerances limit) ⊎ Passes a m tolerances limit
  unfolding at_once
  at_once_early = go (bad_count (length a)) (all_finite a) (all_finite (starts_of m)) (either_bad tolerances) (ltb greatest_limit limit) refl refl refl refl refl
    where
      go :
          (b c d e f : Bool) → bad_count (length a) ≡ b → all_finite a ≡ c → all_finite (starts_of m) ≡ d → either_bad tolerances ≡ e → ltb greatest_limit limit ≡ f →
          Early a m tolerances limit (cond b 1 (cond c (cond d (cond e 4 (cond f 5 0)) 3) 2)) ⊎ Passes a m tolerances limit
      go true c d e f hb hc hd he hf = inl (one ((tells_count a).yes hb))
      go false false d e f hb hc hd he hf = inl (two ((tells_count a).no hb) (some_not a hc))
      go false true false e f hb hc hd he hf = inl (three ((tells_count a).no hb) ((tells_finite a).yes hc) (some_not (starts_of m) hd))
      go false true true true f hb hc hd he hf = inl (four ((tells_count a).no hb) ((tells_finite a).yes hc) ((tells_finite (starts_of m)).yes hd) ((tells_tolerances tolerances).yes he))
      go false true true false true hb hc hd he hf =
          inl (five ((tells_count a).no hb) ((tells_finite a).yes hc) ((tells_finite (starts_of m)).yes hd) ((tells_tolerances tolerances).no he) ((tells_limit limit).yes hf))
      go false true true false false hb hc hd he hf =
          inr (record { good_count = (tells_count a).no hb; good_coefficients = (tells_finite a).yes hc; good_starts = (tells_finite (starts_of m)).yes hd; good_tolerances = (tells_tolerances tolerances).no he; good_limit = (tells_limit limit).no hf })
