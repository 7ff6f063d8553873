-- A rounded product that is not zero tells whether its factors have the same sign. Assumes nothing.
use Rattle.std.specs.Prelude.{◌≡◌, refl, Bool, true, false, ◌&&◌, cond, ℕ, zero, suc, ◌+◌, ◌*◌, ◌^◌, ◌<◌, T, ltb, eqb, ℤ, pos, Float}
use Rattle.std.proofs.Common.{sym, ◌∙◌, subst, inl, inr, true≢false, lt_irrefl, mul-pos, mul_comm, zero-mul, add-zero, mul-one, eq-zero-or-pos, arith, ltb→lt, lt→ltb, le-ltb, ne_eqb, pow_pos}
use Rattle.std.specs.Bool.{beq}
use Rattle.std.proofs.lemmas.Bool.{false≢true}
use Rattle.std.specs.Float.{nan, inf, fin, Format, binary64}
use Rattle.std.specs.Float.Ieee.{prec, emax, low, up, down, unlike, odd, units, round, mul, lt, of_bits, of_fields}
use Rattle.std.specs.Float.Ieee.Bits.{is_true}
use Rattle.std.specs.Float.Ieee.Exact.{HasValue, odd_sign, round_exact}
use Rattle.std.specs.Float.Ieee.Fits.{up_pos, down_pos, and_l, and_r, and_i}
use Rattle.std.specs.Float.Ieee.Positive.{first_pos}
use Rattle.doubles.specs.Doubles.{nought, above, below, same_sign, opposite_sign}
use Rattle.doubles.proofs.Compare.{of_true, same_test}
use Rattle.doubles.specs.Products.{stands}

-- ---- above and below zero

nought_is : nought ≡ fin false 0 (pos 0)
unfolding of_bits of_fields odd
nought_is = refl

same_size : (m : ℕ) (e : ℤ) → ltb 0 (m * up e) ≡ ltb 0 m
same_size m e = same_test (ltb 0 (m * up e)) (ltb 0 m) (λ t. lt→ltb 0 m (first_pos m (up e) (ltb→lt 0 (m * up e) t))) (λ t. lt→ltb 0 (m * up e) (mul-pos (ltb→lt 0 m t) (up_pos e)))

above_is : (x : Float) → above x ≡ stands false x
unfolding lt
above_is nan = rw nought_is refl
above_is (inf true) = rw nought_is refl
above_is (inf false) = rw nought_is refl
above_is (fin true m e) = rw nought_is refl
above_is (fin false m e) = rw (nought_is, zero-mul (down e), mul-one (m * up e)) (same_size m e)

pub below_is : (x : Float) → below x ≡ stands true x
unfolding lt
below_is nan = refl
below_is (inf true) = rw nought_is refl
below_is (inf false) = rw nought_is refl
below_is (fin true m e) = rw (nought_is, zero-mul (down e), mul-one (m * up e), add-zero (m * up e)) (same_size m e)
below_is (fin false m e) = rw (nought_is, zero-mul (down e)) (le-ltb (m * up e * 1) 0 (omega arith))

-- ---- what is rounded keeps its sign, and zero stays zero

pub beq_eq : (s t : Bool) → T (beq s t) → s ≡ t
beq_eq true true h = refl
beq_eq true false h = absurd h
beq_eq false true h = absurd h
beq_eq false false h = refl

-- the sign of a value
valued_side : (u : Bool) (x : Float) (s : Bool) (a c : ℕ) → HasValue x s a c → T (stands u x) → u ≡ s
valued_side u (fin t m e) s a c v h = beq_eq u t (and_l (beq u t) (ltb 0 m) h) ∙ v.0
valued_side u nan s a c v h = elim v [ ]
valued_side u (inf _) s a c v h = elim v [ ]

units_side : (f : Format) (u s : Bool) (q k : ℕ) → T (stands u (units f s q k)) → u ≡ s
unfolding units
units_side f u s q k = go (ltb (q * 2 ^ k) (2 ^ (low f + suc (emax f))))
  where
    go : (b : Bool) → T (stands u (cond b (odd (suc (prec f)) s q k (low f)) (inf s))) → u ≡ s
    go true h = valued_side u (odd (suc (prec f)) s q k (low f)) s (q * 2 ^ k) (2 ^ low f) (odd_sign (suc (prec f)) s q k (low f)) h
    go false h = beq_eq u s h

pub round_side : (f : Format) (u s : Bool) (a c : ℕ) → T (stands u (round f s a c)) → u ≡ s
unfolding round
round_side f u s a c h = units_side f u s _ _ h

nothing : (u : Bool) (x : Float) (s : Bool) (c : ℕ) → 0 < c → HasValue x s 0 c → T (stands u x) → ⊥
nothing u (fin t m e) s c C v h = lt_irrefl 0 (subst (λ (k : ℕ). 0 < k) (v.1 ∙ zero-mul (down e)) (mul-pos (mul-pos (ltb→lt 0 m (and_r (beq u t) (ltb 0 m) h)) (up_pos e)) C))
nothing u nan s c C v h = elim v [ ]
nothing u (inf _) s c C v h = elim v [ ]

zero_stays : (f : Format) (s : Bool) (c : ℕ) → 0 < c → HasValue (round f s 0 c) s 0 c
zero_stays f s c C = round_exact f s 0 c 0 0 C (pow_pos (prec f)) (pow_pos (low f + suc (emax f))) (zero-mul (2 ^ low f) ∙ sym (zero-mul c))

round_size : (f : Format) (u s : Bool) (a c : ℕ) → 0 < c → T (stands u (round f s a c)) → 0 < a
round_size f u s a c C h = elim (eq-zero-or-pos a) [ inl z ↦ absurd (nothing u (round f s 0 c) s c C (zero_stays f s c C) (subst (λ (k : ℕ). T (stands u (round f s k c))) z h)) | inr p ↦ p ]

-- ---- the factors of a product on the side u

record Factors (u : Bool) (x y : Float) : Type 0 where
  first : Bool
  second : Bool
  signs : u ≡ unlike first second
  first_stands : T (stands first x)
  second_stands : T (stands second y)

pub itself : (s : Bool) → T (beq s s)
itself true = tt
itself false = tt

pub finite_stands : (s : Bool) (m : ℕ) (e : ℤ) → 0 < m → T (stands s (fin s m e))
finite_stands s m e h = and_i (beq s s) (ltb 0 m) (itself s) (lt→ltb 0 m h)

-- a number times an infinity
infinite : (u s : Bool) (n : ℕ) → T (stands u (cond (eqb n 0) nan (inf s))) → (u ≡ s) × (0 < n)
infinite u s zero h = absurd h
infinite u s (suc n) h = (beq_eq u s (rw (ne_eqb (suc n) 0 (λ z. omega arith)) at h), omega arith)

factors : (f : Format) (u : Bool) (x y : Float) → T (stands u (mul f x y)) → Factors u x y
unfolding mul
factors f u (inf s) (inf t) h = record { first = s; second = t; signs = beq_eq u (unlike s t) h; first_stands = itself s; second_stands = itself t }
factors f u (inf s) (fin t n d) h =
    let k = infinite u (unlike s t) n h in
    record { first = s; second = t; signs = k.0; first_stands = itself s; second_stands = finite_stands t n d k.1 }
factors f u (fin s m e) (inf t) h =
    let k = infinite u (unlike s t) m h in
    record { first = s; second = t; signs = k.0; first_stands = finite_stands s m e k.1; second_stands = itself t }
factors f u (fin s m e) (fin t n d) h =
    let both = round_size f u (unlike s t) (m * up e * (n * up d)) (down e * down d) (mul-pos (down_pos e) (down_pos d)) h in
    record {
      first = s;
      second = t;
      signs = round_side f u (unlike s t) (m * up e * (n * up d)) (down e * down d) h;
      first_stands = finite_stands s m e (first_pos m (up e) (first_pos (m * up e) (n * up d) both));
      second_stands = finite_stands t n d (first_pos n (up d) (first_pos (n * up d) (m * up e) (subst (λ (k : ℕ). 0 < k) (mul_comm (m * up e) (n * up d)) both)));
    }
factors f u nan y h = elim h [ ]
factors f u (inf s) nan h = elim h [ ]
factors f u (fin s m e) nan h = elim h [ ]

-- ---- what a product tells

pub not_above : (x : Float) → T (stands true x) → above x ≡ false
not_above x h = above_is x ∙ go x h
  where
    go : (x : Float) → T (stands true x) → stands false x ≡ false
    go (inf true) k = refl
    go (fin true m e) k = refl
    go nan k = elim k [ ]
    go (inf false) k = elim k [ ]
    go (fin false m e) k = elim k [ ]

pub not_below : (x : Float) → T (stands false x) → below x ≡ false
not_below x h = below_is x ∙ go x h
  where
    go : (x : Float) → T (stands false x) → stands true x ≡ false
    go (inf false) k = refl
    go (fin false m e) k = refl
    go nan k = elim k [ ]
    go (inf true) k = elim k [ ]
    go (fin true m e) k = elim k [ ]

pub is_above : (x : Float) → T (stands false x) → above x ≡ true
is_above x h = above_is x ∙ is_true (stands false x) h

pub is_below : (x : Float) → T (stands true x) → below x ≡ true
is_below x h = below_is x ∙ is_true (stands true x) h

-- Values whose product is above zero have the same sign.
pub product_above : (x y : Float) → above (mul binary64 x y) ≡ true → same_sign x y ≡ true
unfolding same_sign
product_above x y h = let k = factors binary64 false x y (of_true _ (sym (above_is (mul binary64 x y)) ∙ h)) in go k.first k.second k.signs k.first_stands k.second_stands
  where
    go : (s t : Bool) → false ≡ unlike s t → T (stands s x) → T (stands t y) → cond (above x) (above y) (below x && below y) ≡ true
    go true true e p q = rw (not_above x p, is_below x p) (is_below y q)
    go true false e p q = absurd (false≢true e)
    go false true e p q = absurd (false≢true e)
    go false false e p q = rw (is_above x p) (is_above y q)

-- Values whose product is below zero have opposite signs.
pub product_below : (x y : Float) → below (mul binary64 x y) ≡ true → opposite_sign x y ≡ true
unfolding opposite_sign
product_below x y h = let k = factors binary64 true x y (of_true _ (sym (below_is (mul binary64 x y)) ∙ h)) in go k.first k.second k.signs k.first_stands k.second_stands
  where
    go : (s t : Bool) → true ≡ unlike s t → T (stands s x) → T (stands t y) → cond (above x) (below y) (below x && above y) ≡ true
    go true true e p q = absurd (true≢false e)
    go true false e p q = rw (not_above x p, is_below x p) (is_above y q)
    go false true e p q = rw (is_above x p) (is_below y q)
    go false false e p q = absurd (true≢false e)
