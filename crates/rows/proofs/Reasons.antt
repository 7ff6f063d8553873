-- Why bytes are no number: they end early, have an eleventh group, pass 64 bits, or have a needless last group.
use Rattle.std.specs.Prelude.{ℕ, zero, suc, ◌-◌, ◌+◌, ◌*◌, ◌≤◌, Bool, true, false, cond, List, [], ◌∷◌, ◌++◌, ◌≡◌, refl, ltb, eqb}
use Rattle.std.proofs.Common.{arith, sym, ap, ◌∙◌, le-ltb, ltb-true, ltb-false, eqb-true}
use Rattle.rows.specs.Groups.{groups_in, Found, found, none, above, number_in, number_of}
use Rattle.rows.proofs.GroupLaws.{none_found, one_spelling}
use Rattle.rows.specs.Reasons.{Broken, ends_early, eleventh, passes, needless, no_byte, later}

-- ---- each is a reason

nothing_above : (b : Bool) (v : ℕ) (x : Found) → above v 128 x ≡ none → cond b (above v 128 x) none ≡ none
nothing_above true v x e = e
nothing_above false v x e = refl

zero_first : (k : ℕ) (s : List ℕ) → number_in k (0 ∷ s) ≡ found 0 s
zero_first zero s = refl
zero_first (suc k) s = refl

refused : (k b : ℕ) (s : List ℕ) → 128 ≤ b → above (b - 128) 128 (number_in k s) ≡ none → number_in (suc k) (b ∷ s) ≡ none
refused k b s h e = rw (le-ltb b 128 h) (nothing_above (ltb b 256) (b - 128) (number_in k s) e)

is_reason : {k : ℕ} {s : List ℕ} → Broken k s → number_in k s ≡ none
is_reason (ends_early {k = zero}) = refl
is_reason (ends_early {k = suc k}) = refl
is_reason (eleventh {b = b} h) = rw (le-ltb b 2 (omega arith))
is_reason (passes {b = b} h l) = rw (le-ltb b 2 h)
is_reason (needless {k = k} {b = b} {s = s} h) = refused k b (0 ∷ s) h (rw (zero_first k s))
is_reason (no_byte {b = b} h) = rw (le-ltb b 128 (omega arith), le-ltb b 256 h)
is_reason (later {k = k} {b = b} {s = s} h r) = refused k b s h (ap (above (b - 128) 128) (is_reason r))

-- ---- there is no other

zero_spelled : (k : ℕ) (t : List ℕ) → groups_in k 0 ++ t ≡ 0 ∷ t
zero_spelled zero t = refl
zero_spelled (suc k) t = refl

module _ (k b : ℕ) (s : List ℕ) (h : 128 ≤ b) where
  behind : (number_in k s ≡ none → Broken k s) → (x : Found) → number_in k s ≡ x → above (b - 128) 128 x ≡ none → Broken (suc k) (b ∷ s)
  behind r none e q = later h (r e)
  behind r (found n t) e q = go (eqb n 0) refl q
    where
      go : (y : Bool) → eqb n 0 ≡ y → cond y none (found (b - 128 + 128 * n) t) ≡ none → Broken (suc k) (b ∷ s)
      go false f p = none_found (sym p)
      go true f p = rw ((one_spelling k s n t e).is ∙ ap (λ (m : ℕ). groups_in k m ++ t) (eqb-true n 0 f) ∙ zero_spelled k t) (needless h)

has_reason : (k : ℕ) (s : List ℕ) → number_in k s ≡ none → Broken k s
has_reason zero [] e = ends_early
has_reason zero (b ∷ s) e = go (ltb b 2) refl (ltb b 128) refl e
  where
    go : (x : Bool) → ltb b 2 ≡ x → (y : Bool) → ltb b 128 ≡ y → cond x (found b s) none ≡ none → Broken 0 (b ∷ s)
    go true f y g q = none_found (sym q)
    go false f true g q = passes (ltb-false b 2 f) (ltb-true b 128 g)
    go false f false g q = eleventh (ltb-false b 128 g)
has_reason (suc k) [] e = ends_early
has_reason (suc k) (b ∷ s) e = go (has_reason k s) (ltb b 128) refl (ltb b 256) refl e
  where
    go : (number_in k s ≡ none → Broken k s) → (x : Bool) → ltb b 128 ≡ x → (y : Bool) → ltb b 256 ≡ y → cond x (found b s) (cond y (above (b - 128) 128 (number_in k s)) none) ≡ none → Broken (suc k) (b ∷ s)
    go r true f y g q = none_found (sym q)
    go r false f true g q = behind k b s (ltb-false b 128 f) r (number_in k s) refl q
    go r false f false g q = no_byte (ltb-false b 256 g)

-- ---- exactly these

pub has_one : (s : List ℕ) → number_of s ≡ none → Broken 9 s
unfolding number_of
has_one s e = has_reason 9 s e

pub is_one : (s : List ℕ) → Broken 9 s → number_of s ≡ none
unfolding number_of
is_one s r = is_reason r
