-- Doubles by their bits: which are finite, and the order number, which agrees with the standard's comparison. Assumes nothing.
use Rattle.std.specs.Prelude.{◌≡◌, refl, ◌↔◌, Bool, true, false, not, ◌&&◌, cond, ℕ, zero, suc, ◌+◌, ◌-◌, ◌*◌, ◌/◌, ◌%◌, ◌^◌, ◌<◌, ◌≤◌, T, leb, ltb, eqb, ℤ, pos, negsuc, neg_ℤ, nat_abs, ◌≤ℤ◌, ◌<ℤ◌, Float}
use Rattle.std.proofs.Common.{sym, ap, ◌∙◌, subst, inl, inr, zero-le, eq-or-lt_of_le, le_antisymm, le_of_lt, le_of_suc-le-suc, lt_irrefl, lt_of_not-le, lt_of_lt_of_le, lt_of_le_of_lt, not-le_of_lt, le-div_iff_mul-le, mul-div_cancel, mul-pos, mul-one, div-one, mul_assoc, mul_comm, mul_right_comm, add_assoc, zero-add, zero-mul, add-one, arith, leb→le, le→leb, nltb→le, pow-add, pow_pos, le-ltb, lt-ltb, le-leb, leb-true, leb-false, ne_eqb}
use Rattle.std.proofs.Math.Bool.{not-not}
use Rattle.std.proofs.Math.Nat.{zero-div}
use Rattle.std.proofs.Math.Dec.{leb-suc-suc}
use Rattle.std.proofs.Math.Arith.{le→nltb}
use Rattle.std.proofs.Math.Pow.{pow-lt, shr_mono}
use Rattle.std.specs.Int.Signed.{lt_z, le_z, ≤ℤ_refl}
use Rattle.std.specs.Float.{nan, inf, fin, binary64}
use Rattle.std.specs.Float.Ieee.{up, down, size, odd, hid, of_fields, of_bits, to_bits, nan_bits, fits, is_nan, below, lt, le, eq, neg}
use Rattle.std.specs.Float.Ieee.Digits.{size-lt, size-le, size_reaches, back}
use Rattle.std.specs.Float.Ieee.Fits.{kept-lt, and_i, and_l, and_r, down_pos}
use Rattle.std.specs.Float.Ieee.Bits.{is_true, is_false, of_bits-to_bits, to_bits-of_bits, to_bits-lt, of_bits-fits, nan_bits_above}
use Rattle.std.specs.Float.Ieee.Scale.{finite}
use Rattle.std.proofs.lemmas.Bool.{not-true, eqb-false, lt-leb}
use Rattle.doubles.specs.Doubles.{nought, exponent_width, exponent_all_ones, signed63, order_of, pattern_of, of_order}
use Rattle.doubles.specs.Compare.{Like}
use Rattle.doubles.proofs.Compare.{same_test, of_true, eqb_iff, below_like, below_scaled, finite_num, lt_not_le, eq_both}
use Rattle.doubles.specs.Number.{Double, bound, many, largest}

-- ---- finite, by the exponent's bits

odd_finite : (d : ℕ) (s : Bool) (q k l : ℕ) → finite (odd d s q k l) ≡ true
unfolding odd
odd_finite d s zero k l = refl
odd_finite d s (suc q) k l = refl

by_tests : (a b s : Bool) (v : Float) → finite v ≡ true → finite (cond a (cond b (inf s) nan) v) ≡ not a
by_tests true true s v h = refl
by_tests true false s v h = refl
by_tests false b s v h = h

by_fields : (s : Bool) (x t : ℕ) → finite (of_fields binary64 s x t) ≡ not (eqb x 2047)
unfolding of_fields
by_fields s zero t = odd_finite 53 s t 0 1074
by_fields s (suc x) t = by_tests (eqb (suc x) 2047) (eqb t 0) s (odd 53 s (hid binary64 + t) x 1074) (odd_finite 53 s (hid binary64 + t) x 1074)

of_pattern : (b : ℕ) → finite (of_bits binary64 b) ≡ not (eqb (b % 2 ^ 63 / 2 ^ 52) 2047)
unfolding of_bits
of_pattern b = by_fields (leb (2 ^ 63) b) (b % 2 ^ 63 / 2 ^ 52) (b % 2 ^ 52)

-- A double is finite unless its eleven exponent bits are all ones.
pub finite_exponent : (x : Float) → T (fits binary64 x) → finite x ≡ not (exponent_all_ones (to_bits binary64 x))
finite_exponent x f = ap finite (sym (of_bits-to_bits binary64 x f)) ∙ of_pattern bits ∙ ap not exponent
  where
    bits : ℕ
    bits = to_bits binary64 x

    exponent : eqb (bits % 2 ^ 63 / 2 ^ 52) 2047 ≡ exponent_all_ones bits
    exponent = eqb_iff (bits % 2 ^ 63 / 2 ^ 52) 2047 (bits / 2 ^ 52 % 2 ^ exponent_width) (2 ^ exponent_width - 1) (λ h. omega arith, λ h. omega arith)

bits_low : (x : Float) → Double x → to_bits binary64 x % 2 ^ 63 < bound
bits_low x d =
    let b = to_bits binary64 x in
    let not_ones : not (eqb (b % 2 ^ 63 / 2 ^ 52) 2047) ≡ true = sym (of_pattern b) ∙ ap finite (of_bits-to_bits binary64 x d.is_held) ∙ is_true (finite x) d.is_finite in
    omega (arith, eqb-false (b % 2 ^ 63 / 2 ^ 52) 2047 (not-true (eqb (b % 2 ^ 63 / 2 ^ 52) 2047) not_ones))

-- ---- the pattern of m * 2 ^ e

-- the pattern of n of the smallest double
abbrev code : ℕ → ℕ
code n = (size n - 53) * 2 ^ 52 + n / 2 ^ (size n - 53)

-- a pattern, of a sign and the rest
abbrev tagged : Bool → ℕ → ℕ
tagged s c = cond s (2 ^ 63) 0 + c

bits_fin : (s : Bool) (m : ℕ) (e : ℤ) → to_bits binary64 (fin s m e) ≡ tagged s (code (many m e))
unfolding to_bits
bits_fin s m e = add_assoc (cond s (2 ^ 63) 0) ((size (many m e) - 53) * 2 ^ 52) (many m e / 2 ^ (size (many m e) - 53))

-- a double is a whole number of the smallest
pow_le_back : (a l : ℕ) → 2 ^ a ≤ 2 ^ l → a ≤ l
pow_le_back a l h = le_of_suc-le-suc (lt_of_not-le (λ (g : suc l ≤ a). lt_irrefl (2 ^ l) (lt_of_lt_of_le (pow-lt g) h)))

whole_at : (l m : ℕ) (e : ℤ) → down e ≤ 2 ^ l → m * up e * 2 ^ l ≡ m * up e * 2 ^ l / down e * down e
whole_at l m (pos a) h = sym (mul-one (m * 2 ^ a * 2 ^ l / 1) ∙ div-one (m * 2 ^ a * 2 ^ l))
whole_at l m (negsuc a) h =
    let p : 2 ^ l ≡ 2 ^ (l - suc a) * 2 ^ suc a = ap (λ (x : ℕ). 2 ^ x) (sym (back l (suc a) (pow_le_back (suc a) l h))) ∙ pow-add 2 (l - suc a) (suc a) in
    let q : m * 1 * 2 ^ l ≡ m * 1 * 2 ^ (l - suc a) * 2 ^ suc a = ap (λ (x : ℕ). m * 1 * x) p ∙ sym (mul_assoc (m * 1) (2 ^ (l - suc a)) (2 ^ suc a)) in
    q ∙ ap (λ (x : ℕ). x * 2 ^ suc a) (sym (ap (λ (x : ℕ). x / 2 ^ suc a) q ∙ mul-div_cancel (m * 1 * 2 ^ (l - suc a)) (pow_pos (suc a))))

pub fits_whole : (s : Bool) (m : ℕ) (e : ℤ) → T (fits binary64 (fin s m e)) → m * up e * 2 ^ 1074 ≡ many m e * down e
unfolding fits
fits_whole s zero e h = simp (zero-mul, zero-div)
fits_whole s (suc m) e h =
    let A = eqb (suc m % 2) 1 in
    let B = ltb (suc m) (2 ^ 53) in
    let C = leb (down e) (2 ^ 1074) in
    let D = ltb (suc m * up e) (2 ^ 1024 * down e) in
    whole_at 1074 (suc m) e (leb→le (down e) (2 ^ 1074) (and_r (A && B) C (and_l (A && B && C) D h)))

-- ---- the pattern grows with the size

full : (n : ℕ) → 0 < size n - 53 → 2 ^ 52 ≤ n / 2 ^ (size n - 53)
full n h = let k = size n - 53 in (le-div_iff_mul-le (pow_pos k)).1 (subst (λ (x : ℕ). x ≤ n) (pow-add 2 52 k) (size_reaches n (52 + k) (omega arith)))

code_mono : (a b : ℕ) → a ≤ b → code a ≤ code b
code_mono a b h = elim (eq-or-lt_of_le dropped) [
  | inl e ↦ subst (λ (k : ℕ). k * 2 ^ 52 + a / 2 ^ k ≤ code b) (sym e) (omega (arith, shr_mono (size b - 53) h))
  | inr l ↦ omega (arith, kept-lt 53 a, full b (omega arith))
]
  where
    dropped : size a - 53 ≤ size b - 53
    dropped = omega (arith, size-le a (size b) (lt_of_le_of_lt h (size-lt b)))

flip : (s t : Bool) (m : ℕ) (e : ℤ) → T (fits binary64 (fin s m e)) → T (fits binary64 (fin t m e))
unfolding fits
flip s t zero e h = h
flip s t (suc m) e h = h

code_low : (s : Bool) (m : ℕ) (e : ℤ) → T (fits binary64 (fin s m e)) → code (many m e) < bound
code_low s m e p =
    under (code (many m e)) (subst (λ (b : ℕ). b < 2 ^ 64) (bits_fin true m e) (to_bits-lt binary64 (fin true m e) (flip s true m e p)))
    (subst (λ (b : ℕ). b % 2 ^ 63 < bound) (bits_fin false m e) (bits_low (fin false m e) (record { is_finite = tt; is_held = flip s false m e p })))
  where
    under : (c : ℕ) → 2 ^ 63 + c < 2 ^ 64 → (0 + c) % 2 ^ 63 < bound → c < bound
    under c h k = omega arith

same_bits : (x y : Float) → T (fits binary64 x) → T (fits binary64 y) → to_bits binary64 x ≡ to_bits binary64 y → x ≡ y
same_bits x y p q h = sym (of_bits-to_bits binary64 x p) ∙ ap (of_bits binary64) h ∙ of_bits-to_bits binary64 y q

abbrev many_of : Float → ℕ
many_of nan = 0
many_of (inf s) = 0
many_of (fin s m e) = many m e

-- two doubles' patterns stand to each other as their sizes do
module _ (s : Bool) (m : ℕ) (e : ℤ) (t : Bool) (n : ℕ) (d : ℤ) (p : T (fits binary64 (fin s m e))) (q : T (fits binary64 (fin t n d))) where
  code_inj : code (many m e) ≡ code (many n d) → many m e ≡ many n d
  code_inj h = ap many_of (same_bits (fin false m e) (fin false n d) (flip s false m e p) (flip t false n d q) (bits_fin false m e ∙ ap (tagged false) h ∙ sym (bits_fin false n d)))

  code_strict : many m e < many n d → code (many m e) < code (many n d)
  code_strict h = elim (eq-or-lt_of_le (code_mono (many m e) (many n d) (le_of_lt h))) [ inl z ↦ absurd (lt_irrefl (many n d) (subst (λ (x : ℕ). x < many n d) (code_inj z) h)) | inr l ↦ l ]

  code_iff : many m e < many n d ↔ code (many m e) < code (many n d)
  code_iff = (code_strict, λ h. lt_of_not-le (λ l. not-le_of_lt h (code_mono (many n d) (many m e) l)))

code_pos : (s : Bool) (m : ℕ) (e : ℤ) → T (fits binary64 (fin s m e)) → 0 < many m e ↔ 0 < code (many m e)
unfolding fits size
code_pos s m e p = code_iff false 0 (pos 0) s m e tt p

code_like : (s : Bool) (m : ℕ) (e : ℤ) (t : Bool) (n : ℕ) (d : ℤ) → T (fits binary64 (fin s m e)) → T (fits binary64 (fin t n d)) → Like (many m e) (many n d) (code (many m e)) (code (many n d))
code_like s m e t n d p q = (code_iff s m e t n d p q, code_iff t n d s m e q p, code_pos s m e p, code_pos t n d q)

-- ---- the order number

leb_not_ltb : (a b : ℕ) → leb a b ≡ not (ltb b a)
leb_not_ltb a b = same_test (leb a b) (not (ltb b a)) (λ t. le→nltb b a (leb→le a b t)) (λ t. le→leb a b (nltb→le b a t))

abbrev signed : Bool → ℕ → ℤ
signed s n = cond s (neg_ℤ (pos n)) (pos n)

below_signed : (s t : Bool) (u v : ℕ) → below s u t v ≡ lt_z (signed s u) (signed t v)
below_signed false false u v = refl
below_signed false true u zero = sym (le-ltb u 0 zero-le)
below_signed false true u (suc v) = refl
below_signed true false zero v = ap (λ (z : ℕ). ltb 0 z) (zero-add v)
below_signed true false (suc u) v = lt-ltb 0 (suc u + v) (omega arith)
below_signed true true zero zero = refl
below_signed true true zero (suc v) = le-ltb (suc v) 0 zero-le
below_signed true true (suc u) zero = lt-ltb 0 (suc u) (omega arith)
below_signed true true (suc u) (suc v) = leb-suc-suc (suc v) u

signed_tagged : (s : Bool) (c : ℕ) → c < 2 ^ 63 → signed63 (tagged s c) ≡ signed s c
signed_tagged true c h = let r : (2 ^ 63 + c) % 2 ^ 63 ≡ c = omega arith in rw (le-leb (2 ^ 63) (2 ^ 63 + c) (omega arith), r)
signed_tagged false c h = let r : (0 + c) % 2 ^ 63 ≡ c = omega arith in rw (lt-leb (2 ^ 63) (0 + c) (omega arith), r)

order_fin : (s : Bool) (m : ℕ) (e : ℤ) → T (fits binary64 (fin s m e)) → order_of (fin s m e) ≡ signed s (code (many m e))
unfolding order_of is_nan
order_fin s m e p = ap signed63 (bits_fin s m e) ∙ signed_tagged s (code (many m e)) (omega (arith, code_low s m e p))

-- A / a and B / b, of which i and j are the numerators over a common k
common : (s t : Bool) (A a B b k i j : ℕ) → 0 < k → 0 < a → 0 < b → A * k ≡ i * a → B * k ≡ j * b → below s (A * b) t (B * a) ≡ below s i t j
common s t A a B b k i j pk pa pb h g =
    sym (below_scaled s t (A * b) (B * a) k pk)
    ∙ (rw (mul_right_comm A b k, mul_right_comm B a k, h, g, mul_assoc i a b, mul_assoc j b a, mul_comm b a) (below_scaled s t i j (a * b) (mul-pos pa pb)))

by_numbers : (x y : Float) → T (finite x) → T (finite y) → T (fits binary64 x) → T (fits binary64 y) → lt x y ≡ lt_z (order_of x) (order_of y)
unfolding lt
by_numbers (fin s m e) (fin t n d) _ _ p q =
    common s t (m * up e) (down e) (n * up d) (down d) (2 ^ 1074) (many m e) (many n d) (pow_pos 1074) (down_pos e) (down_pos d) (fits_whole s m e p) (fits_whole t n d q)
    ∙ below_like s t (many m e) (many n d) (code (many m e)) (code (many n d)) (code_like s m e t n d p q)
    ∙ below_signed s t (code (many m e)) (code (many n d))
    ∙ rw (order_fin s m e p, order_fin t n d q)
by_numbers nan y x5 _ p q = elim x5 [ ]
by_numbers (inf _) y x7 _ p q = elim x7 [ ]
by_numbers (fin s m e) nan _ x12 p q = elim x12 [ ]
by_numbers (fin s m e) (inf _) _ x14 p q = elim x14 [ ]

le_z_not_lt_z : (a b : ℤ) → le_z a b ≡ not (lt_z b a)
le_z_not_lt_z (pos a) (pos b) = leb_not_ltb a b
le_z_not_lt_z (pos a) (negsuc b) = refl
le_z_not_lt_z (negsuc a) (pos b) = refl
le_z_not_lt_z (negsuc a) (negsuc b) = leb_not_ltb b a

-- `lt` of finite doubles is `<` of their order numbers.
pub lt_order : (x y : Float) → Double x → Double y → (lt x y ≡ true) ↔ (order_of x <ℤ order_of y)
lt_order x y d e = let w = by_numbers x y d.is_finite e.is_finite d.is_held e.is_held in (λ h. record { lt = of_true (lt_z (order_of x) (order_of y)) (sym w ∙ h) }, λ l. w ∙ is_true (lt_z (order_of x) (order_of y)) l.lt)

le_le_z : (x y : Float) → Double x → Double y → le x y ≡ le_z (order_of x) (order_of y)
le_le_z x y d e = sym (not-not (le x y)) ∙ ap not (sym (lt_not_le y x (finite_num y e.is_finite) (finite_num x d.is_finite)) ∙ by_numbers y x e.is_finite d.is_finite e.is_held d.is_held) ∙ sym (le_z_not_lt_z (order_of x) (order_of y))

-- `le` of finite doubles is `≤` of their order numbers.
pub le_order : (x y : Float) → Double x → Double y → (le x y ≡ true) ↔ (order_of x ≤ℤ order_of y)
le_order x y d e = let w = le_le_z x y d e in (λ h. record { le = of_true (le_z (order_of x) (order_of y)) (sym w ∙ h) }, λ l. w ∙ is_true (le_z (order_of x) (order_of y)) l.le)

le_z_antisym : (a b : ℤ) → T (le_z a b) → T (le_z b a) → a ≡ b
le_z_antisym (pos a) (pos b) h k = ap pos (le_antisymm (leb→le a b h) (leb→le b a k))
le_z_antisym (negsuc a) (negsuc b) h k = ap negsuc (le_antisymm (leb→le a b k) (leb→le b a h))
le_z_antisym (pos a) (negsuc b) h k = elim h [ ]
le_z_antisym (negsuc a) (pos b) h k = elim k [ ]

-- Finite doubles are equal just when their order numbers are.
pub eq_order : (x y : Float) → Double x → Double y → (eq x y ≡ true) ↔ (order_of x ≡ order_of y)
eq_order x y d e = (there, home)
  where
    both : T (eq x y) ↔ T (le x y) × T (le y x)
    both = eq_both x y (finite_num x d.is_finite) (finite_num y e.is_finite)

    there : eq x y ≡ true → order_of x ≡ order_of y
    there h = let t = both.0 (of_true (eq x y) h) in le_z_antisym (order_of x) (order_of y) (subst T (le_le_z x y d e) t.0) (subst T (le_le_z y x e d) t.1)

    home : order_of x ≡ order_of y → eq x y ≡ true
    home h = is_true (eq x y) (both.1 (subst T (sym (le_le_z x y d e)) (rw h (≤ℤ_refl (order_of y)).le), subst T (sym (le_le_z y x e d)) (rw h (≤ℤ_refl (order_of y)).le)))

-- Both zeros have the number 0.
pub order_zero : (order_of nought ≡ pos 0) × (order_of (neg nought) ≡ pos 0)
unfolding order_of is_nan to_bits of_bits of_fields odd neg size
order_zero = (refl, refl)

-- ---- from the number to the double and back

abs_signed63 : (b : ℕ) → nat_abs (signed63 b) ≡ b % 2 ^ 63
abs_signed63 b = go (leb (2 ^ 63) b) (b % 2 ^ 63)
  where
    go : (s : Bool) (r : ℕ) → nat_abs (signed s r) ≡ r
    go true zero = refl
    go true (suc r) = refl
    go false r = refl

order_is : (x : Float) → is_nan x ≡ false → order_of x ≡ signed63 (to_bits binary64 x)
unfolding order_of
order_is x n = rw n

-- A finite double's order number has a size below 0x7ff0_0000_0000_0000.
pub order_bound : (x : Float) → Double x → nat_abs (order_of x) < bound
order_bound x d = rw (order_is x (is_false (is_nan x) (finite_num x d.is_finite)), abs_signed63 (to_bits binary64 x)) (bits_low x d)

-- A pattern below the infinity's, whatever its sign, is no NaN's.
pub low_no_nan : (b : ℕ) → b % 2 ^ 63 < bound → nan_bits binary64 b ≡ false
low_no_nan b l = nan_bits_above binary64 b ∙ le-ltb bound (b % 2 ^ 63) (le_of_lt l)

-- In that range `of_order` is the double with the number's pattern.
pub of_order_is : (k : ℤ) → nat_abs k < bound → of_order k ≡ of_bits binary64 (pattern_of k)
unfolding of_order
of_order_is k l = rw (lt-ltb (nat_abs k) bound l)

pattern_small : (k : ℤ) → nat_abs k < bound → (pattern_of k < 2 ^ 64) × (pattern_of k % 2 ^ 63 < bound)
pattern_small (pos n) l = (omega arith, omega arith)
pattern_small (negsuc n) l = (omega arith, omega arith)

signed_pattern : (k : ℤ) → nat_abs k < bound → signed63 (pattern_of k) ≡ k
signed_pattern (pos n) l = ap signed63 (sym (zero-add n)) ∙ signed_tagged false n (omega arith)
signed_pattern (negsuc n) l = rw add-one (signed_tagged true (suc n) (omega arith))

finite_low : (b : ℕ) → b % 2 ^ 63 < bound → T (finite (of_bits binary64 b))
finite_low b l = rw (of_pattern b, ne_eqb (b % 2 ^ 63 / 2 ^ 52) 2047 (omega arith)) tt

-- The numbers of a size below 0x7ff0_0000_0000_0000 have finite doubles.
pub of_order_double : (k : ℤ) → nat_abs k < bound → Double (of_order k)
of_order_double k l = rw (of_order_is k l) (record { is_finite = finite_low (pattern_of k) (pattern_small k l).1; is_held = of_bits-fits binary64 (pattern_of k) })

-- From such a number to its double and back is the identity.
pub order_of_order : (k : ℤ) → nat_abs k < bound → order_of (of_order k) ≡ k
order_of_order k l =
    let n = finite_num (of_bits binary64 (pattern_of k)) (finite_low (pattern_of k) (pattern_small k l).1) in
    ap order_of (of_order_is k l)
    ∙ order_is (of_bits binary64 (pattern_of k)) (is_false (is_nan (of_bits binary64 (pattern_of k))) n)
    ∙ ap signed63 (to_bits-of_bits binary64 (pattern_of k) (pattern_small k l).0 n)
    ∙ signed_pattern k l

pattern_signed : (b : ℕ) → b < 2 ^ 64 → (signed63 b ≡ pos 0 → ⊥) → pattern_of (signed63 b) ≡ b
pattern_signed b l = go (leb (2 ^ 63) b) (leb-true (2 ^ 63) b) (leb-false (2 ^ 63) b)
  where
    negated : (r : ℕ) → b ≡ 2 ^ 63 + r → (neg_ℤ (pos r) ≡ pos 0 → ⊥) → pattern_of (neg_ℤ (pos r)) ≡ b
    negated zero h n = absurd (n refl)
    negated (suc r) h n = omega arith

    go : (s : Bool) → (s ≡ true → 2 ^ 63 ≤ b) → (s ≡ false → b < 2 ^ 63) → (signed s (b % 2 ^ 63) ≡ pos 0 → ⊥) → pattern_of (signed s (b % 2 ^ 63)) ≡ b
    go true f g n = negated (b % 2 ^ 63) (omega (arith, f refl)) n
    go false f g n = omega (arith, g refl)

-- From a finite double that is not zero to its number and back is the identity.
pub of_order_order : (x : Float) → Double x → (order_of x ≡ pos 0 → ⊥) → of_order (order_of x) ≡ x
of_order_order x d n =
    let e = order_is x (is_false (is_nan x) (finite_num x d.is_finite)) in
    of_order_is (order_of x) (order_bound x d)
    ∙ ap (λ (k : ℤ). of_bits binary64 (pattern_of k)) e
    ∙ ap (of_bits binary64) (pattern_signed (to_bits binary64 x) (to_bits-lt binary64 x d.is_held) (λ z. n (e ∙ z)))
    ∙ of_bits-to_bits binary64 x d.is_held

-- ---- finite, by two comparisons

ends : (largest ≡ of_order (pos 0x7fef_ffff_ffff_ffff)) × (neg largest ≡ of_order (negsuc 0x7fef_ffff_ffff_fffe))
unfolding of_order of_bits of_fields odd neg
ends = (refl, refl)

between_ends : (k : ℤ) → nat_abs k < bound → T (le_z (negsuc 0x7fef_ffff_ffff_fffe) k) × T (le_z k (pos 0x7fef_ffff_ffff_ffff))
between_ends (pos n) l = (tt, le→leb n 0x7fef_ffff_ffff_ffff (le_of_suc-le-suc l))
between_ends (negsuc n) l = (le→leb n 0x7fef_ffff_ffff_fffe (le_of_suc-le-suc (le_of_suc-le-suc l)), tt)

le_of_order : (k : ℤ) (x : Float) → nat_abs k < bound → Double x → (le (of_order k) x ≡ le_z k (order_of x)) × (le x (of_order k) ≡ le_z (order_of x) k)
le_of_order k x l d =
    let e = order_of_order k l in
    (le_le_z (of_order k) x (of_order_double k l) d ∙ ap (λ (z : ℤ). le_z z (order_of x)) e, le_le_z x (of_order k) d (of_order_double k l) ∙ ap (λ (z : ℤ). le_z (order_of x) z) e)

finite_ends : (x : Float) → Double x → (le (neg largest) x && le x largest) ≡ true
finite_ends x d =
    let b = between_ends (order_of x) (order_bound x d) in
    rw (ends.1, ends.0, (le_of_order (negsuc 0x7fef_ffff_ffff_fffe) x (omega arith) d).0, (le_of_order (pos 0x7fef_ffff_ffff_ffff) x (omega arith) d).1)
    (is_true (le_z (negsuc 0x7fef_ffff_ffff_fffe) (order_of x) && le_z (order_of x) (pos 0x7fef_ffff_ffff_ffff)) (and_i (le_z (negsuc 0x7fef_ffff_ffff_fffe) (order_of x)) (le_z (order_of x) (pos 0x7fef_ffff_ffff_ffff)) b.0 b.1))

-- A double is finite just when it lies between the largest finite one and its negation.
pub finite_compared : (x : Float) → T (fits binary64 x) → finite x ≡ (le (neg largest) x && le x largest)
unfolding le of_bits of_fields odd neg
finite_compared nan p = refl
finite_compared (inf true) p = refl
finite_compared (inf false) p = refl
finite_compared (fin s m e) p = sym (finite_ends (fin s m e) (record { is_finite = tt; is_held = p }))
