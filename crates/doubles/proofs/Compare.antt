-- The order of the floats that are no NaN: `le` is total and transitive, and `lt` is its strict part. Assumes nothing.
use Rattle.std.specs.Prelude.{◌≡◌, refl, ◌↔◌, ◌⊎◌, Bool, true, false, not, ◌&&◌, ◌||◌, cond, ℕ, zero, suc, ◌+◌, ◌-◌, ◌*◌, ◌<◌, ◌≤◌, T, ltb, eqb}
use Rattle.std.proofs.Common.{sym, ap, ◌∙◌, subst, inl, inr, ⊎_elim, true≢false, eq-or-lt_of_le, lt_of_mul-lt-mul_right, mul-lt-mul_of_pos_right, mul_right_comm, zero-mul, arith, ltb→lt, lt→ltb, nltb→le, eqb→eq, T_not, le-ltb, lt-ltb, eq-eqb, ne_eqb}
use Rattle.std.proofs.Math.Bool.{and-true, or-true, not-not}
use Rattle.std.proofs.Math.Dec.{not_T}
use Rattle.std.proofs.Math.Arith.{le→nltb}
use lib.Ieee.{Float, nan, inf, fin, up, down, below, level, lt, eq, le, is_nan}
use Rattle.std.specs.Float.Ieee.Fits.{down_pos, eq→eqb, and_i, and_l, and_r}
use Rattle.std.specs.Float.Ieee.Bits.{is_false}
use Rattle.std.specs.Float.Ieee.Scale.{finite}
use Rattle.doubles.specs.Doubles.{clamp, beyond}
use Rattle.doubles.specs.Compare.{Num, Like}

-- ---- tests

-- Two tests that hold together are equal.
pub same_test : (a b : Bool) → (T a → T b) → (T b → T a) → a ≡ b
same_test true true p q = refl
same_test true false p q = absurd (p tt)
same_test false true p q = absurd (q tt)
same_test false false p q = refl

-- A test that is true holds; `is_true` of lib.Ieee.Bits is the way back.
pub of_true : (b : Bool) → b ≡ true → T b
of_true b p = rw p tt

or_i : (a b : Bool) → T a ⊎ T b → T (a || b)
or_i true b t = tt
or_i false b (inl t) = absurd t
or_i false b (inr t) = t

ltb_iff : (a b u v : ℕ) → (a < b ↔ u < v) → ltb a b ≡ ltb u v
ltb_iff a b u v h = same_test (ltb a b) (ltb u v) (λ t. lt→ltb u v (h.0 (ltb→lt a b t))) (λ t. lt→ltb a b (h.1 (ltb→lt u v t)))

-- Two tests of equality that hold together are equal.
pub eqb_iff : (a b u v : ℕ) → (a ≡ b ↔ u ≡ v) → eqb a b ≡ eqb u v
eqb_iff a b u v h = same_test (eqb a b) (eqb u v) (λ t. eq→eqb (h.0 (eqb→eq a b t))) (λ t. eq→eqb (h.1 (eqb→eq u v t)))

ltb_split : (i j k : ℕ) → T (ltb i k) → T (ltb i j) ⊎ T (ltb j k)
ltb_split i j k h = go (ltb i j) (nltb→le i j)
  where
    go : (b : Bool) → (T (not b) → j ≤ i) → T b ⊎ T (ltb j k)
    go true f = inl tt
    go false f = inr (lt→ltb j k (omega (arith, f tt, ltb→lt i k h)))

ltb_or_eqb : (i j : ℕ) → (ltb i j || eqb i j) ≡ not (ltb j i)
ltb_or_eqb i j = go (ltb j i) (ltb→lt j i) (nltb→le j i)
  where
    go : (b : Bool) → (T b → j < i) → (T (not b) → i ≤ j) → (ltb i j || eqb i j) ≡ not b
    go true f g = rw (le-ltb i j (omega (arith, f tt)), ne_eqb i j (omega (arith, f tt)))
    go false f g = elim (eq-or-lt_of_le (g tt)) [ inl e ↦ rw (eq-eqb i j e) (or-true (ltb i j)) | inr l ↦ rw (lt-ltb i j l) ]

-- ---- a sign and a size

plus : (a b u v : ℕ) → (0 < a → 0 < u) → (0 < b → 0 < v) → 0 < a + b → 0 < u + v
plus zero zero u v p q h = omega arith
plus zero (suc b) u v p q h = omega (arith, q (omega arith))
plus (suc a) b u v p q h = omega (arith, p (omega arith))

-- Sizes that stand alike compare alike, with any signs.
pub below_like : (s t : Bool) (a b u v : ℕ) → Like a b u v → below s a t b ≡ below s u t v
below_like false false a b u v h = ltb_iff a b u v h.0
below_like false true a b u v h = refl
below_like true false a b u v h = ltb_iff 0 (a + b) 0 (u + v) (plus a b u v h.2.0 h.3.0, plus u v a b h.2.1 h.3.1)
below_like true true a b u v h = ltb_iff b a v u h.1

lt_scaled : (a b k : ℕ) → 0 < k → a * k < b * k ↔ a < b
lt_scaled a b k p = (λ l. lt_of_mul-lt-mul_right k l, λ l. mul-lt-mul_of_pos_right l p)

pos_scaled : (a k : ℕ) → 0 < k → 0 < a * k ↔ 0 < a
pos_scaled a k p = rw zero-mul at (lt_scaled 0 a k p)

-- Two sizes compare as their multiples do.
pub below_scaled : (s t : Bool) (a b k : ℕ) → 0 < k → below s (a * k) t (b * k) ≡ below s a t b
below_scaled s t a b k p = below_like s t (a * k) (b * k) a b (lt_scaled a b k p, lt_scaled b a k p, pos_scaled a k p, pos_scaled b k p)

-- as a number around K
abbrev around : ℕ → Bool → ℕ → ℕ
around K s a = cond s (K - a) (K + a)

below_around : (K : ℕ) (s t : Bool) (a b : ℕ) → a < K → b < K → below s a t b ≡ ltb (around K s a) (around K t b)
below_around K false false a b p q = ltb_iff a b (K + a) (K + b) (omega arith)
below_around K false true a b p q = sym (is_false (ltb (K + a) (K - b)) (le→nltb (K + a) (K - b) (omega arith)))
below_around K true false a b p q = ltb_iff 0 (a + b) (K - a) (K + b) (omega arith)
below_around K true true a b p q = ltb_iff b a (K - a) (K - b) (omega arith)

both_eq : (a b i j : ℕ) → ((a ≡ b) × (a ≡ 0) ↔ i ≡ j) → eqb a b && eqb a 0 ≡ eqb i j
both_eq a b i j h =
    same_test (eqb a b && eqb a 0) (eqb i j) (λ t. eq→eqb (h.0 (eqb→eq a b (and_l (eqb a b) (eqb a 0) t), eqb→eq a 0 (and_r (eqb a b) (eqb a 0) t))))
    (λ t. and_i (eqb a b) (eqb a 0) (eq→eqb (h.1 (eqb→eq i j t)).0) (eq→eqb (h.1 (eqb→eq i j t)).1))

level_around : (K : ℕ) (s t : Bool) (a b : ℕ) → a < K → b < K → level s a t b ≡ eqb (around K s a) (around K t b)
level_around K false false a b p q = and-true (eqb a b) ∙ eqb_iff a b (K + a) (K + b) (omega arith)
level_around K false true a b p q = both_eq a b (K + a) (K - b) (omega arith)
level_around K true false a b p q = both_eq a b (K - a) (K + b) (omega arith)
level_around K true true a b p q = and-true (eqb a b) ∙ eqb_iff a b (K - a) (K - b) (omega arith)

below_split : (s t u : Bool) (a b c : ℕ) → T (below s a u c) → T (below s a t b) ⊎ T (below t b u c)
below_split s t u a b c h =
    let K = suc (a + b + c) in
    rw (below_around K s t a b (omega arith) (omega arith), below_around K t u b c (omega arith) (omega arith))
    (ltb_split (around K s a) (around K t b) (around K u c) (subst T (below_around K s u a c (omega arith) (omega arith)) h))

below_or_level : (s t : Bool) (a b : ℕ) → (below s a t b || level s a t b) ≡ not (below t b s a)
below_or_level s t a b =
    let K = suc (a + b) in
    rw (below_around K s t a b (omega arith) (omega arith), level_around K s t a b (omega arith) (omega arith), below_around K t s b a (omega arith) (omega arith))
    (ltb_or_eqb (around K s a) (around K t b))

level_not_below : (s t : Bool) (a b : ℕ) → T (level s a t b) → T (not (below s a t b))
level_not_below s t a b h =
    let K = suc (a + b) in
    rw (below_around K s t a b (omega arith) (omega arith))
    (le→nltb (around K s a) (around K t b) (omega (arith, eqb→eq (around K s a) (around K t b) (subst T (level_around K s t a b (omega arith) (omega arith)) h))))

-- ---- numbers

-- What compares is no NaN.
pub le_nums : (x y : Float) → T (le x y) → Num x × Num y
unfolding le is_nan
le_nums nan y t = absurd t
le_nums (inf s) nan t = absurd t
le_nums (inf s) (inf t) h = (tt, tt)
le_nums (inf s) (fin t n d) h = (tt, tt)
le_nums (fin s m e) nan t = absurd t
le_nums (fin s m e) (inf t) h = (tt, tt)
le_nums (fin s m e) (fin t n d) h = (tt, tt)

-- A finite float is a number.
pub finite_num : (x : Float) → T (finite x) → Num x
unfolding is_nan
finite_num (fin s m e) h = tt
finite_num nan h = elim h [ ]
finite_num (inf _) h = elim h [ ]

le_not_lt : (x y : Float) → Num x → Num y → le x y ≡ not (lt y x)
unfolding le is_nan
le_not_lt nan y p q = absurd p
le_not_lt (inf s) nan p q = absurd q
le_not_lt (fin s m e) nan p q = absurd q
le_not_lt (inf true) (inf true) p q = refl
le_not_lt (inf true) (inf false) p q = refl
le_not_lt (inf false) (inf true) p q = refl
le_not_lt (inf false) (inf false) p q = refl
le_not_lt (inf true) (fin t n d) p q = refl
le_not_lt (inf false) (fin t n d) p q = refl
le_not_lt (fin s m e) (inf true) p q = refl
le_not_lt (fin s m e) (inf false) p q = refl
le_not_lt (fin s m e) (fin t n d) p q = below_or_level s t (m * up e * down d) (n * up d * down e)

-- `lt` is the strict part of `le`.
pub lt_not_le : (x y : Float) → Num x → Num y → lt x y ≡ not (le y x)
lt_not_le x y p q = sym (ap not (le_not_lt y x q p) ∙ not-not (lt x y))

eq_not_lt : (x y : Float) → T (eq x y) → T (not (lt x y))
unfolding eq lt
eq_not_lt (inf true) (inf true) h = tt
eq_not_lt (inf false) (inf false) h = tt
eq_not_lt (fin s m e) (fin t n d) h = level_not_below s t (m * up e * down d) (n * up d * down e) h
eq_not_lt nan y h = elim h [ ]
eq_not_lt (inf false) nan h = elim h [ ]
eq_not_lt (inf false) (inf true) h = elim h [ ]
eq_not_lt (inf false) (fin t n d) h = elim h [ ]
eq_not_lt (inf true) nan h = elim h [ ]
eq_not_lt (inf true) (inf false) h = elim h [ ]
eq_not_lt (inf true) (fin t n d) h = elim h [ ]
eq_not_lt (fin s m e) nan h = elim h [ ]
eq_not_lt (fin s m e) (inf _) h = elim h [ ]

-- Two numbers are equal where each is at most the other.
pub eq_both : (x y : Float) → Num x → Num y → T (eq x y) ↔ T (le x y) × T (le y x)
unfolding le
eq_both x y p q = (λ t. (or_i (lt x y) (eq x y) (inr t), subst T (sym (le_not_lt y x q p)) (eq_not_lt x y t)), λ h. only (lt x y) (eq x y) h.0 (subst T (le_not_lt y x q p) h.1))
  where
    only : (a b : Bool) → T (a || b) → T (not a) → T b
    only true b t n = absurd n
    only false b t n = t

-- What is below is at most.
pub lt→le : (x y : Float) → T (lt x y) → T (le x y)
unfolding le
lt→le x y t = or_i (lt x y) (eq x y) (inl t)

-- What is at most is not above.
pub le_no_lt : (x y : Float) → T (le x y) → T (lt y x) → ⊥
le_no_lt x y h = let n = le_nums x y h in T_not (lt y x) (subst T (le_not_lt x y n.0 n.1) h)

-- What is not above is at most.
pub no_lt_le : (x y : Float) → Num x → Num y → (T (lt y x) → ⊥) → T (le x y)
no_lt_le x y p q h = rw (le_not_lt x y p q) (not_T (lt y x) h)

finite_split : (s t u : Bool) (A a B b C c : ℕ) → 0 < a → 0 < b → 0 < c → T (below s (A * c) u (C * a)) → T (below s (A * b) t (B * a)) ⊎ T (below t (B * c) u (C * b))
finite_split s t u A a B b C c p q r h =
    rw (← below_scaled s t (A * b) (B * a) c r, ← below_scaled t u (B * c) (C * b) a p, mul_right_comm B c a, mul_right_comm C b a)
    (below_split s t u (A * b * c) (B * a * c) (C * a * b) (rw (← below_scaled s u (A * c) (C * a) b q, mul_right_comm A c b) at h))

-- a number is above the lower of two or below the upper
lt_split : (x y z : Float) → Num y → T (lt x z) → T (lt x y) ⊎ T (lt y z)
unfolding lt is_nan
lt_split (inf false) y (inf u) n h = absurd h
lt_split (inf false) y (fin u p g) n h = absurd h
lt_split (inf true) (inf true) (inf false) n h = inr tt
lt_split (inf true) (inf true) (fin u p g) n h = inr tt
lt_split (fin s m e) (inf true) (inf false) n h = inr tt
lt_split (fin s m e) (inf true) (fin u p g) n h = inr tt
lt_split (inf true) (inf false) z n h = inl tt
lt_split (fin s m e) (inf false) z n h = inl tt
lt_split (inf true) (fin t q d) z n h = inl tt
lt_split (fin s m e) (fin t q d) (inf false) n h = inr tt
lt_split (fin s m e) (fin t q d) (fin u p g) n h = finite_split s t u (m * up e) (down e) (q * up d) (down d) (p * up g) (down g) (down_pos e) (down_pos d) (down_pos g) h
lt_split nan y z n h = elim h [ ]
lt_split (inf false) y nan n h = elim h [ ]
lt_split (inf true) nan z n h = elim n [ ]
lt_split (inf true) (inf true) nan n h = elim h [ ]
lt_split (inf true) (inf true) (inf true) n h = elim h [ ]
lt_split (fin s m e) nan z n h = elim n [ ]
lt_split (fin s m e) (inf true) nan n h = elim h [ ]
lt_split (fin s m e) (inf true) (inf true) n h = elim h [ ]
lt_split (fin s m e) (fin t q d) nan n h = elim h [ ]
lt_split (fin s m e) (fin t q d) (inf true) n h = elim h [ ]

-- `le` is reflexive on numbers.
pub le_refl : (x : Float) → Num x → T (le x x)
le_refl x p = no_lt_le x x p p (λ t. le_no_lt x x (lt→le x x t) t)

-- `le` is total on numbers.
pub le_total : (x y : Float) → Num x → Num y → T (le x y) ⊎ T (lt y x)
le_total x y p q = go (lt y x) (le_not_lt x y p q)
  where
    go : (b : Bool) → le x y ≡ not b → T (le x y) ⊎ T b
    go true e = inr tt
    go false e = inl (of_true (le x y) e)

-- `le` is transitive.
pub le_trans : (x y z : Float) → T (le x y) → T (le y z) → T (le x z)
le_trans x y z a b = no_lt_le x z (le_nums x y a).0 (le_nums y z b).1 (λ t. ⊎_elim (le_no_lt y z b) (le_no_lt x y a) (lt_split z y x (le_nums x y a).1 t))

-- `lt` and then `le` is `lt`.
pub lt_le_trans : (x y z : Float) → T (lt x y) → T (le y z) → T (lt x z)
lt_le_trans x y z a b = ⊎_elim (λ t. t) (λ t. absurd (le_no_lt y z b t)) (lt_split x z y (le_nums y z b).1 a)

-- `le` and then `lt` is `lt`.
pub le_lt_trans : (x y z : Float) → T (le x y) → T (lt y z) → T (lt x z)
le_lt_trans x y z a b = ⊎_elim (λ t. absurd (le_no_lt x y a t)) (λ t. t) (lt_split y x z (le_nums x y a).0 b)

-- ---- a number pulled between two others

-- What is pulled between two ends lies between them.
pub clamp_between : (low high x : Float) → Num x → T (le low high) → T (le low (clamp low high x)) × T (le (clamp low high x) high)
clamp_between low high x n h = go (lt x low) (lt high x) (le_not_lt low x p n) (le_not_lt x high n q)
  where
    p : Num low
    p = (le_nums low high h).0

    q : Num high
    q = (le_nums low high h).1

    go : (b c : Bool) → le low x ≡ not b → le x high ≡ not c → T (le low (cond b low (cond c high x))) × T (le (cond b low (cond c high x)) high)
    go true c u v = (le_refl low p, h)
    go false true u v = (h, le_refl high q)
    go false false u v = (of_true (le low x) u, of_true (le x high) v)

-- A point is beyond two ends just when it does not lie between them.
pub beyond_inside : (low high x : Float) → Num low → Num high → Num x → beyond low high x ≡ not (le low x && le x high)
beyond_inside low high x p q n = rw (le_not_lt low x p n, le_not_lt x high n q) (go (lt x low) (lt high x))
  where
    go : (b c : Bool) → cond b true c ≡ not (not b && not c)
    go true c = refl
    go false true = refl
    go false false = refl

-- A point that is not beyond the ends is not pulled.
pub clamp_inside : (low high x : Float) → beyond low high x ≡ false → clamp low high x ≡ x
clamp_inside low high x = go (lt x low) (lt high x)
  where
    go : (b c : Bool) → cond b true c ≡ false → cond b low (cond c high x) ≡ x
    go true c h = absurd (true≢false h)
    go false true h = absurd (true≢false h)
    go false false h = refl

-- What is pulled is one of the three.
pub clamp_one : (P : Float → Type 0) (low high x : Float) → P low → P high → P x → P (clamp low high x)
clamp_one P low high x a b c = go (lt x low) (lt high x)
  where
    go : (u v : Bool) → P (cond u low (cond v high x))
    go true v = a
    go false true = b
    go false false = c
