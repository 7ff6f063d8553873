-- A sum of two doubles is minus zero only where the first of them is. Assumes nothing.
use Rattle.std.specs.Prelude.{ℕ, zero, suc, ◌+◌, ◌-◌, ◌*◌, ◌^◌, ◌≤◌, ◌<◌, Bool, true, false, cond, ◌&&◌, ◌≡◌, refl, T, ltb, eqb, Float}
use Rattle.std.proofs.Common.{mul_assoc, mul_comm, mul_right_comm, mul-pos, add-mul, mul-lt-mul_of_pos_right, lt_of_mul-lt-mul_right, mul-le-mul_right, zero-mul, arith, true≢false, ap, sym, ◌∙◌, subst, ltb→lt, ne_eqb, pow_pos}
use Rattle.std.specs.Bool.{beq}
use Rattle.std.specs.Float.{nan, inf, fin, binary64}
use Rattle.std.specs.Float.Ieee.{fits, up, down, odd, units, round, sum, add}
use Rattle.std.specs.Float.Ieee.Fits.{up_pos, down_pos, round_is}
use Rattle.std.specs.Float.Ieee.Order.{drop, kept}
use Rattle.doubles.proofs.Compare.{of_true}
use Rattle.doubles.specs.Number.{many}
use Rattle.doubles.proofs.Number.{fits_whole}
use Rattle.doubles.specs.Sizes.{at_least}
use Rattle.doubles.proofs.Sizes.{above_zero, rounded}
use Rattle.doubles.specs.Sums.{minus_zero}

-- ---- what is rounded

and_zero : (s : Bool) (m : ℕ) → 0 < m → s && eqb m 0 ≡ false
and_zero true m h = ne_eqb m 0 (λ z. omega (arith, h, z))
and_zero false m h = refl

large_not_minus : (k : ℕ) (x : Float) → T (at_least k x) → minus_zero x ≡ false
large_not_minus k nan h = refl
large_not_minus k (inf s) h = refl
large_not_minus k (fin s m e) h = and_zero s m (above_zero k m e h)

units_plus : (q j : ℕ) → minus_zero (units binary64 false q j) ≡ false
unfolding units odd
units_plus q j = go (ltb (q * 2 ^ j) (2 ^ 2098)) q
  where
    go : (b : Bool) (q : ℕ) → minus_zero (cond b (odd 54 false q j 1074) (inf false)) ≡ false
    go true zero = refl
    go true (suc q) = refl
    go false q = refl

plus : (a c : ℕ) → minus_zero (round binary64 false a c) ≡ false
plus a c = rw round_is (units_plus (kept 53 (a * 2 ^ 1074) c) (drop 53 (a * 2 ^ 1074) c))

-- a fraction that is not below the smallest double
whole : (s : Bool) (a c : ℕ) → 0 < c → c ≤ a * 2 ^ 1074 → minus_zero (round binary64 s a c) ≡ false
whole s a c C h = large_not_minus 1074 (round binary64 s a c) (rounded s a c 1074 C (omega arith) h)

-- ---- two doubles as multiples of the smallest

-- a / c and b / c are M and N times 1 / p
module _ (p a b c M N : ℕ) (P : 0 < p) (first : a * p ≡ M * c) (second : b * p ≡ N * c) where
  both : 0 < a → c ≤ (a + b) * p
  both h =
      let more : 0 * c < M * c = subst (λ (n : ℕ). 0 * c < n) first (rw zero-mul (mul-pos h P)) in
      let one_more : 1 * c ≤ M * c = mul-le-mul_right c (lt_of_mul-lt-mul_right c more) in
      let split : (a + b) * p ≡ a * p + b * p = add-mul a b p in
      omega (arith, one_more, split, first)

  gap : a < b → c ≤ (b - a) * p
  gap h =
      let less : M * c < N * c = subst (λ (n : ℕ). n < N * c) first (subst (λ (n : ℕ). a * p < n) second (mul-lt-mul_of_pos_right h P)) in
      let one_more : (M + 1) * c ≤ N * c = mul-le-mul_right c (omega (arith, lt_of_mul-lt-mul_right c less)) in
      let next : (M + 1) * c ≡ M * c + 1 * c = add-mul M 1 c in
      let again : a + (b - a) ≡ b = omega (arith, h) in
      let split : b * p ≡ a * p + (b - a) * p = ap (λ (n : ℕ). n * p) (sym again) ∙ add-mul a (b - a) p in
      omega (arith, one_more, next, split, first, second)

-- ---- the sum

sum_minus :
    (s t : Bool) (a b c M N : ℕ) → 0 < c → a * 2 ^ 1074 ≡ M * c → b * 2 ^ 1074 ≡ N * c → (s ≡ true → 0 < a) →
    minus_zero (sum binary64 s a t b c) ≡ false
unfolding sum
sum_minus true true a b c M N C p q h = whole true (a + b) c C (both (2 ^ 1074) a b c M N (pow_pos 1074) p q (h refl))
sum_minus false false a b c M N C p q h = plus (a + b) c
sum_minus false true a b c M N C p q h = go (ltb a b) refl
  where
    go : (k : Bool) → ltb a b ≡ k → minus_zero (cond k (round binary64 true (b - a) c) (round binary64 false (a - b) c)) ≡ false
    go true e = whole true (b - a) c C (gap (2 ^ 1074) a b c M N (pow_pos 1074) p q (ltb→lt a b (of_true (ltb a b) e)))
    go false e = plus (a - b) c
sum_minus true false a b c M N C p q h = go (ltb a b) (ltb b a) refl
  where
    go : (k l : Bool) → ltb b a ≡ l → minus_zero (cond k (round binary64 false (b - a) c) (round binary64 (true && l) (a - b) c)) ≡ false
    go true l e = plus (b - a) c
    go false true e = whole true (a - b) c C (gap (2 ^ 1074) b a c N M (pow_pos 1074) q p (ltb→lt b a (of_true (ltb b a) e)))
    go false false e = plus (a - b) c

-- A sum of two doubles is minus zero only where the first is.
pub sum_not_minus : (x y : Float) → T (fits binary64 x) → T (fits binary64 y) → minus_zero x ≡ false → minus_zero (add binary64 x y) ≡ false
unfolding add
sum_not_minus nan y f g h = refl
sum_not_minus (inf s) nan f g h = refl
sum_not_minus (inf s) (inf t) f g h = go (beq s t)
  where
    go : (b : Bool) → minus_zero (cond b (inf s) nan) ≡ false
    go true = refl
    go false = refl
sum_not_minus (inf s) (fin t n d) f g h = refl
sum_not_minus (fin s m e) nan f g h = refl
sum_not_minus (fin s m e) (inf t) f g h = refl
sum_not_minus (fin s m e) (fin t n d) f g h =
    sum_minus s t (m * up e * down d) (n * up d * down e) (down e * down d) (many m e) (many n d) (mul-pos (down_pos e) (down_pos d)) first second negative
  where
    first : m * up e * down d * 2 ^ 1074 ≡ many m e * (down e * down d)
    first = mul_right_comm (m * up e) (down d) (2 ^ 1074) ∙ ap (λ (k : ℕ). k * down d) (fits_whole s m e f) ∙ mul_assoc (many m e) (down e) (down d)

    second : n * up d * down e * 2 ^ 1074 ≡ many n d * (down e * down d)
    second = mul_right_comm (n * up d) (down e) (2 ^ 1074) ∙ ap (λ (k : ℕ). k * down e) (fits_whole t n d g) ∙ mul_assoc (many n d) (down d) (down e) ∙ ap (λ (k : ℕ). many n d * k) (mul_comm (down d) (down e))

    positive : (m : ℕ) → true && eqb m 0 ≡ false → 0 < m
    positive zero z = absurd (true≢false z)
    positive (suc m) z = omega arith

    negative : s ≡ true → 0 < m * up e * down d
    negative z = mul-pos (mul-pos (positive m (subst (λ (b : Bool). b && eqb m 0 ≡ false) z h)) (up_pos e)) (down_pos d)
