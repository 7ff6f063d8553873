-- A number has one spelling, and it reads back.
use Rattle.std.specs.Prelude.{ℕ, zero, suc, ◌+◌, ◌-◌, ◌*◌, ◌/◌, ◌%◌, ◌^◌, ◌≤◌, ◌<◌, Bool, true, false, cond, List, [], ◌∷◌, ◌++◌, ◌≡◌, refl, ltb, eqb, length}
use Rattle.std.proofs.Common.{pow-suc, arith, sym, ap, ◌∙◌, lt-ltb, le-ltb, ne_eqb, ltb-true, ltb-false}
use Rattle.std.proofs.lemmas.Bool.{eqb-false}
use Rattle.rows.specs.Groups.{groups_in, groups, Found, found, none, above, number_in, number_of}
use Rattle.rows.specs.GroupLaws.{limit_in, Spelled}

-- ---- the numbers that k groups more can hold

next_limit : (k : ℕ) → limit_in (suc k) ≡ 128 * limit_in k
next_limit k = rw (pow-suc 128 k) (omega arith)

pub shorter : (k n : ℕ) → n < limit_in (suc k) → n / 128 < limit_in k
shorter k n h = let e = next_limit k in omega arith

longer : (k g n : ℕ) → g < 128 → n < limit_in k → g + 128 * n < limit_in (suc k)
longer k g n h l = let e = next_limit k in omega arith

small_holds : (k n : ℕ) → n < 128 → n < limit_in (suc k)
small_holds zero n h = omega arith
small_holds (suc k) n h = let e = next_limit (suc k) in let l = small_holds k n h in omega arith

-- ---- one group off, in each direction

module _ (k n : ℕ) where
  pub groups_last : n < 128 → groups_in (suc k) n ≡ n ∷ []
  groups_last h = rw (lt-ltb n 128 h)

  pub groups_on : 128 ≤ n → groups_in (suc k) n ≡ (n % 128 + 128) ∷ groups_in k (n / 128)
  groups_on h = rw (le-ltb n 128 h)

module _ (k b : ℕ) (s : List ℕ) where
  pub number_last : b < 128 → number_in (suc k) (b ∷ s) ≡ found b s
  number_last h = rw (lt-ltb b 128 h)

  pub number_on : 128 ≤ b → b < 256 → number_in (suc k) (b ∷ s) ≡ above (b - 128) 128 (number_in k s)
  number_on h l = rw (le-ltb b 128 h, lt-ltb b 256 l)

-- ---- at most ten bytes

groups_short : (k n : ℕ) → length (groups_in k n) ≤ suc k
groups_short zero n = omega arith
groups_short (suc k) n = go (groups_short k (n / 128)) (ltb n 128)
  where
    go : length (groups_in k (n / 128)) ≤ suc k → (b : Bool) → length (cond b (n ∷ []) ((n % 128 + 128) ∷ groups_in k (n / 128))) ≤ suc (suc k)
    go r true = omega arith
    go r false = omega arith

pub ten_at_most : (n : ℕ) → length (groups n) ≤ 10
unfolding groups
ten_at_most n = groups_short 9 n

-- ---- what was written reads back

reads_back : (k n : ℕ) (t : List ℕ) → n < limit_in k → number_in k (groups_in k n ++ t) ≡ found n t
reads_back zero n t h = rw (lt-ltb n 2 (omega arith))
reads_back (suc k) n t h = go (reads_back k (n / 128) t (shorter k n h)) (ltb n 128) refl
  where
    go : number_in k (groups_in k (n / 128) ++ t) ≡ found (n / 128) t → (b : Bool) → ltb n 128 ≡ b → number_in (suc k) (groups_in (suc k) n ++ t) ≡ found n t
    go r true e = rw (groups_last k n (ltb-true n 128 e)) (number_last k n t (ltb-true n 128 e))
    go r false e =
        let m = ltb-false n 128 e in
        rw (groups_on k n m)
        (number_on k (n % 128 + 128) (groups_in k (n / 128) ++ t) (omega arith) (omega arith)
        ∙ ap (above (n % 128 + 128 - 128) 128) r
        ∙ rw (ne_eqb (n / 128) 0 (λ z. omega arith)) (ap (λ (j : ℕ). found j t) (omega arith)))

-- ---- what reads was written so

above_inv : (g : ℕ) (x : Found) (n : ℕ) (t : List ℕ) → above g 128 x ≡ found n t → (m : ℕ) × (x ≡ found m t) × (0 < m) × (n ≡ g + 128 * m)
above_inv g none n t h = absurd (let z : ◌≡◌ {A = ℕ} 0 1 = cc in omega arith)
above_inv g (found m u) n t h = go (eqb m 0) refl h
  where
    go : (b : Bool) → eqb m 0 ≡ b → cond b none (found (g + 128 * m) u) ≡ found n t → (m' : ℕ) × (found m u ≡ found m' t) × (0 < m') × (n ≡ g + 128 * m')
    go true e q = absurd (let z : ◌≡◌ {A = ℕ} 0 1 = cc in omega arith)
    go false e q = (m, cc, (let f = eqb-false m 0 e in omega arith), cc)

-- none is no number
pub none_found : {A : Type 0} {n : ℕ} {t : List ℕ} → none ≡ found n t → A
none_found h = absurd (let z : ◌≡◌ {A = ℕ} 0 1 = cc in omega arith)

tenth : (b : ℕ) (s : List ℕ) (n : ℕ) (t : List ℕ) (x : Bool) → ltb b 2 ≡ x → cond x (found b s) none ≡ found n t → Spelled 0 (b ∷ s) n t
tenth b s n t false e h = none_found h
tenth b s n t true e h =
    let l = ltb-true b 2 e in
    let q : b ≡ n = cc in
    record { holds = omega arith; is = cc }

last_group : (k b : ℕ) (s : List ℕ) (n : ℕ) (t : List ℕ) → b < 128 → found b s ≡ found n t → Spelled (suc k) (b ∷ s) n t
last_group k b s n t l h =
    let q : b ≡ n = cc in
    let u : n < 128 = omega arith in
    record { holds = small_holds k n u; is = rw (groups_last k n u) cc }

module _ (k b : ℕ) (s : List ℕ) (n : ℕ) (t : List ℕ) (l : 128 ≤ b) (u : b < 256) where
  group_on : (m : ℕ) → 0 < m → n ≡ b - 128 + 128 * m → Spelled k s m t → Spelled (suc k) (b ∷ s) n t
  group_on m p e r = record { holds = holds'; is = rw (groups_on k n (omega arith), low, high) (ap (λ (x : List ℕ). b ∷ x) r.is) }
    where
      low : n % 128 + 128 ≡ b
      low = omega arith

      high : n / 128 ≡ m
      high = omega arith

      holds' : n < limit_in (suc k)
      holds' = rw e (longer k (b - 128) m (omega arith) r.holds)

pub one_spelling : (k : ℕ) (s : List ℕ) (n : ℕ) (t : List ℕ) → number_in k s ≡ found n t → Spelled k s n t
one_spelling zero [] n t h = none_found h
one_spelling zero (b ∷ s) n t h = tenth b s n t (ltb b 2) refl h
one_spelling (suc k) [] n t h = none_found h
one_spelling (suc k) (b ∷ s) n t h = go (one_spelling k s) (ltb b 128) refl (ltb b 256) refl h
  where
    go : ((m : ℕ) (t : List ℕ) → number_in k s ≡ found m t → Spelled k s m t) → (x : Bool) → ltb b 128 ≡ x → (y : Bool) → ltb b 256 ≡ y → cond x (found b s) (cond y (above (b - 128) 128 (number_in k s)) none) ≡ found n t → Spelled (suc k) (b ∷ s) n t
    go r true e y f q = last_group k b s n t (ltb-true b 128 e) q
    go r false e true f q =
        let i = above_inv (b - 128) (number_in k s) n t q in
        group_on k b s n t (ltb-false b 128 e) (ltb-true b 256 f) i.0 i.2 i.3 (r i.0 t i.1)
    go r false e false f q = none_found q

-- ---- for numbers of 64 bits

pub number_back : (n : ℕ) (t : List ℕ) → n < 2 ^ 64 → number_of (groups n ++ t) ≡ found n t
unfolding groups number_of
number_back n t h = reads_back 9 n t h

pub number_fits : (s : List ℕ) (n : ℕ) (t : List ℕ) → number_of s ≡ found n t → n < 2 ^ 64
unfolding number_of
number_fits s n t h = (one_spelling 9 s n t h).holds

pub number_spelled : (s : List ℕ) (n : ℕ) (t : List ℕ) → number_of s ≡ found n t → s ≡ groups n ++ t
unfolding groups number_of
number_spelled s n t h = (one_spelling 9 s n t h).is

-- refused exactly when it is no spelling of a number of 64 bits
pub none_spells : (s : List ℕ) → number_of s ≡ none → (n : ℕ) (t : List ℕ) → n < 2 ^ 64 → s ≡ groups n ++ t → ⊥
none_spells s e n t h q = none_found (sym e ∙ ap number_of q ∙ number_back n t h)

pub none_otherwise : (s : List ℕ) → ((n : ℕ) (t : List ℕ) → n < 2 ^ 64 → s ≡ groups n ++ t → ⊥) → number_of s ≡ none
none_otherwise s h = go (number_of s) refl
  where
    go : (x : Found) → number_of s ≡ x → number_of s ≡ none
    go none e = e
    go (found n t) e = absurd (h n t (number_fits s n t e) (number_spelled s n t e))
