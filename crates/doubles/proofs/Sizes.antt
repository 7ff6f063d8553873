-- How small a double may be: what halving and multiplying leave of its size, and that a product of doubles that are not too small tells their signs. Assumes nothing.
use Rattle.std.specs.Prelude.{ℕ, zero, suc, ◌+◌, ◌-◌, ◌*◌, ◌^◌, ◌≤◌, ◌<◌, Bool, true, false, cond, ◌≡◌, refl, T, leb, ltb, eqb, ℤ, negsuc, Float}
use Rattle.std.proofs.Common.{one-mul, mul-pos, mul-le-mul, mul_comm, le_of_eq, le_trans, lt_irrefl, zero-mul, arith, ap, sym, ◌∙◌, subst, leb→le, le→leb, ne_eqb, ltb-false, pow-add, pow_pos}
use Rattle.std.proofs.Math.Nat.{mul-mul-mul_comm}
use Rattle.std.specs.Bool.{beq}
use Rattle.std.proofs.Math.Pow.{pow-lt}
use Rattle.std.specs.Float.{nan, inf, fin, binary64}
use Rattle.std.specs.Float.Ieee.{up, down, unlike, odd, units, round, neg, mul, div, lt, le}
use Rattle.std.specs.Float.Ieee.Exact.{HasValue, round_exact}
use Rattle.std.specs.Float.Ieee.Fits.{down_pos, round_is, and_l}
use Rattle.std.specs.Float.Ieee.Order.{drop, kept, round_mono}
use Rattle.std.specs.Float.Ieee.Scale.{finite}
use Rattle.std.specs.Float.Ieee.Positive.{positive, positive_of_value, values_of_le, above_of_le}
use Rattle.doubles.specs.Doubles.{absolute, above, same_sign}
use Rattle.doubles.specs.Products.{stands}
use Rattle.doubles.proofs.Products.{below_is, beq_eq, itself, finite_stands, round_side, is_above, is_below, not_above, not_below, product_above, product_below}
use Rattle.doubles.proofs.Signs.{opposite_not_same}
use Rattle.doubles.specs.Sizes.{at_least, twice}

not_less : (j m : ℕ) (e : ℤ) → lt (fin false m e) (fin false 1 (negsuc j)) ≡ false → T (leb (down e) (m * up e * 2 ^ suc j))
unfolding lt
not_less j m e h =
    let z : 1 * 1 * down e ≤ m * up e * 2 ^ suc j = ltb-false (m * up e * 2 ^ suc j) (1 * 1 * down e) h in
    le→leb (down e) (m * up e * 2 ^ suc j) (omega (arith, z))

-- A finite double whose size is not below 2 ^ -(j + 1) is at least that.
pub not_small : (j : ℕ) (x : Float) → T (finite x) → lt (absolute x) (fin false 1 (negsuc j)) ≡ false → T (at_least (suc j) x)
unfolding absolute lt neg
not_small j nan f h = absurd f
not_small j (inf s) f h = absurd f
not_small j (fin false m e) f h = not_less j m e (rw (below_is (fin false m e)) at h)
not_small j (fin true m e) f h = go (ltb 0 m) (rw (below_is (fin true m e)) at h)
  where
    go : (b : Bool) → lt (cond b (fin false m e) (fin true m e)) (fin false 1 (negsuc j)) ≡ false → T (leb (down e) (m * up e * 2 ^ suc j))
    go true h = not_less j m e h
    go false h =
        let z : m * up e * 2 ^ suc j + 1 * 1 * down e ≤ 0 = ltb-false 0 (m * up e * 2 ^ suc j + 1 * 1 * down e) h in
        absurd (omega (arith, z, down_pos e))

-- ---- what is rounded

-- its sign is no part of its size
units_unsigned : (k : ℕ) (s : Bool) (q j : ℕ) → T (at_least k (units binary64 false q j)) → T (at_least k (units binary64 s q j))
unfolding units odd
units_unsigned k s q j = go (ltb (q * 2 ^ j) (2 ^ 2098)) q
  where
    go : (b : Bool) (q : ℕ) → T (at_least k (cond b (odd 54 false q j 1074) (inf false))) → T (at_least k (cond b (odd 54 s q j 1074) (inf s)))
    go true zero h = h
    go true (suc q) h = h
    go false q h = tt

round_unsigned : (k : ℕ) (s : Bool) (a c : ℕ) → T (at_least k (round binary64 false a c)) → T (at_least k (round binary64 s a c))
round_unsigned k s a c h = rw round_is (units_unsigned k s (kept 53 (a * 2 ^ 1074) c) (drop 53 (a * 2 ^ 1074) c) (rw round_is at h))

-- 2 ^ -k is a double
power_value : (k : ℕ) → k ≤ 1074 → HasValue (round binary64 false 1 (2 ^ k)) false 1 (2 ^ k)
power_value k h =
    let back : 1074 - k + k ≡ 1074 = omega arith in
    let exact : 2 ^ 1074 ≡ 2 ^ (1074 - k) * 2 ^ k = ap (λ (n : ℕ). 2 ^ n) (sym back) ∙ pow-add 2 (1074 - k) k in
    round_exact binary64 false 1 (2 ^ k) 1 (1074 - k) (pow_pos k) (omega arith) (rw one-mul (pow-lt {i = 1074 - k} {j = 2098} (omega arith))) (rw (one-mul, one-mul) exact)

size_of_le : (k : ℕ) (lo x : Float) → T (positive lo) → HasValue lo false 1 (2 ^ k) → T (le lo x) → T (at_least k x)
size_of_le k lo nan p v h = absurd (above_of_le lo nan p h)
size_of_le k lo (inf s) p v h = tt
size_of_le k lo (fin true m e) p v h = absurd (above_of_le lo (fin true m e) p h)
size_of_le k lo (fin false m e) p v h =
    le→leb (down e) (m * up e * 2 ^ k) (rw one-mul at (values_of_le lo (fin false m e) 1 (2 ^ k) (m * up e) (down e) p (above_of_le lo (fin false m e) p h) v (refl, refl) h))

-- a fraction of 2 ^ -k or more is rounded to such a double
pub rounded : (s : Bool) (a c k : ℕ) → 0 < c → k ≤ 1074 → c ≤ a * 2 ^ k → T (at_least k (round binary64 s a c))
rounded s a c k C h l =
    let lo = round binary64 false 1 (2 ^ k) in
    let v = power_value k h in
    round_unsigned k s a c
    (size_of_le k lo (round binary64 false a c) (positive_of_value lo 1 (2 ^ k) v (omega arith)) v (round_mono binary64 1 (2 ^ k) a c (pow_pos k) C (rw one-mul l)))

-- ---- what halving and multiplying leave

cross : (x y a b j k : ℕ) → x ≤ a * 2 ^ j → y ≤ b * 2 ^ k → x * y ≤ a * b * 2 ^ (j + k)
cross x y a b j k h g = le_trans (mul-le-mul h g) (le_of_eq (mul-mul-mul_comm a (2 ^ j) b (2 ^ k) ∙ ap (λ (n : ℕ). a * b * n) (sym (pow-add 2 j k))))

pub above_zero : (k m : ℕ) (e : ℤ) → T (leb (down e) (m * up e * 2 ^ k)) → 0 < m
above_zero k zero e h =
    let g : down e ≤ 0 = rw (zero-mul, zero-mul) at (leb→le (down e) (0 * up e * 2 ^ k) h) in
    absurd (omega (arith, down_pos e))
above_zero k (suc m) e h = omega arith

infinite : (k n : ℕ) (d : ℤ) (s : Bool) → T (leb (down d) (n * up d * 2 ^ k)) → (i : ℕ) → T (at_least i (cond (eqb n 0) nan (inf s)))
infinite k zero d s h i = absurd (lt_irrefl 0 (above_zero k zero d h))
infinite k (suc n) d s h i = rw (ne_eqb (suc n) 0 (λ z. omega arith)) tt

pub product_size : (x y : Float) (j k : ℕ) → j + k ≤ 1074 → T (at_least j x) → T (at_least k y) → T (at_least (j + k) (mul binary64 x y))
unfolding mul
product_size nan y j k l p q = absurd p
product_size (inf s) nan j k l p q = absurd q
product_size (inf s) (inf t) j k l p q = tt
product_size (inf s) (fin t n d) j k l p q = infinite k n d (unlike s t) q (j + k)
product_size (fin s m e) nan j k l p q = absurd q
product_size (fin s m e) (inf t) j k l p q = infinite j m e (unlike s t) p (j + k)
product_size (fin s m e) (fin t n d) j k l p q =
    rounded (unlike s t) (m * up e * (n * up d)) (down e * down d) (j + k) (mul-pos (down_pos e) (down_pos d)) l
    (cross (down e) (down d) (m * up e) (n * up d) j k (leb→le (down e) (m * up e * 2 ^ j) p) (leb→le (down d) (n * up d * 2 ^ k) q))

pub half_size : (x : Float) (k : ℕ) → k + 1 ≤ 1074 → T (at_least k x) → T (at_least (k + 1) (div binary64 x twice))
unfolding div
half_size nan k l p = absurd p
half_size (inf s) k l p = tt
half_size (fin s m e) k l p =
    rounded (unlike s false) (m * up e * 1) (2 * down e) (k + 1) (mul-pos (omega arith) (down_pos e)) l
    (rw (mul_comm 2 (down e)) (cross (down e) 2 (m * up e) 1 k 1 (leb→le (down e) (m * up e * 2 ^ k) p) (omega arith)))

-- ---- which side of zero

pub sided : (k : ℕ) (x : Float) → T (at_least k x) → (u : Bool) × T (stands u x)
sided k nan h = absurd h
sided k (inf s) h = (s, itself s)
sided k (fin s m e) h = (s, finite_stands s m e (above_zero k m e h))

-- The product of doubles that are not too small is above zero exactly where they have the same sign.
pub product_tells : (x y : Float) (j k : ℕ) → j + k ≤ 1074 → T (at_least j x) → T (at_least k y) → above (mul binary64 x y) ≡ same_sign x y
product_tells x y j k l p q = let w = sided (j + k) (mul binary64 x y) (product_size x y j k l p q) in go w.0 w.1
  where
    go : (u : Bool) → T (stands u (mul binary64 x y)) → above (mul binary64 x y) ≡ same_sign x y
    go true h = not_above (mul binary64 x y) h ∙ sym (opposite_not_same x y (product_below x y (is_below (mul binary64 x y) h)))
    go false h = let e = is_above (mul binary64 x y) h in e ∙ sym (product_above x y e)

-- Two doubles on known sides have the same sign where the sides are the same.
pub same_sign_is : (u v : Bool) (x y : Float) → T (stands u x) → T (stands v y) → same_sign x y ≡ beq u v
unfolding same_sign
same_sign_is true true x y h g = rw (not_above x h, is_below x h, is_below y g) refl
same_sign_is true false x y h g = rw (not_above x h, is_below x h, not_below y g) refl
same_sign_is false true x y h g = rw (is_above x h, not_above y g) refl
same_sign_is false false x y h g = rw (is_above x h, is_above y g) refl

like_itself : (s : Bool) → unlike s false ≡ s
like_itself true = refl
like_itself false = refl

-- Half of a double that is not too small lies on its side.
pub half_stands : (u : Bool) (x : Float) (k : ℕ) → k + 1 ≤ 1074 → T (at_least k x) → T (stands u x) → T (stands u (div binary64 x twice))
unfolding div
half_stands u x k l h t = let w = sided (k + 1) (div binary64 x twice) (half_size x k l h) in go x t w.0 w.1
  where
    go : (x : Float) → T (stands u x) → (v : Bool) → T (stands v (div binary64 x twice)) → T (stands u (div binary64 x twice))
    go nan t v g = absurd t
    go (inf s) t v g = rw (like_itself s) t
    go (fin s m e) t v g =
        let z = round binary64 (unlike s false) (m * up e * 1) (2 * down e) in
        let same : v ≡ u = round_side binary64 v (unlike s false) (m * up e * 1) (2 * down e) g ∙ like_itself s ∙ sym (beq_eq u s (and_l (beq u s) (ltb 0 m) t)) in
        subst (λ (b : Bool). T (stands b z)) same g
