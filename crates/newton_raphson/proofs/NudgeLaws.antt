-- A finite double plus 1 is finite, so the nudge of a flat start never gives 9.
use Rattle.std.specs.Prelude.{ℕ, ◌+◌, ◌-◌, ◌*◌, ◌^◌, ◌≤◌, ◌<◌, Bool, true, false, ◌&&◌, cond, ◌≡◌, refl, T, ltb, ℤ, Float}
use Rattle.std.proofs.Common.{mul-one, zero-lt-suc, arith, nltb→le}
use Rattle.std.specs.Bool.{beq}
use Rattle.std.proofs.Math.Dec.{not_T}
use Rattle.std.specs.Float.{nan, inf, fin, binary64}
use Rattle.std.specs.Float.Ieee.{up, down, size, odd, units, round, neg, sum, add, lt, le, of_fields, of_bits}
use Rattle.std.specs.Float.Ieee.Bits.{is_true}
use Rattle.std.specs.Float.Ieee.Exact.{HasValue, odd_sign, units_val}
use Rattle.std.specs.Float.Ieee.Fits.{and_l, and_r, down_pos, round_is}
use Rattle.std.specs.Float.Ieee.Order.{drop, kept, round_mono}
use Rattle.std.specs.Float.Ieee.Scale.{finite, round_under}
use Rattle.doubles.proofs.Compare.{le_no_lt}
use Rattle.doubles.specs.Number.{Double, largest}
use Rattle.doubles.proofs.Number.{finite_compared}
use Rattle.polynom.specs.Polynom.{one}
use Rattle.searching.specs.Programs.{candidate, log, test, offered}
use Rattle.newton_raphson.specs.NewtonRaphson.{nudged_to, nudge}

-- the largest finite double, as a whole number; one more rounds to it
abbrev biggest : ℕ
biggest = (2 ^ 53 - 1) * 2 ^ 971

more_rounds : round binary64 false (biggest + 1) 1 ≡ largest
unfolding round size units odd of_bits of_fields
more_rounds = refl

-- ---- what rounds to a finite double

valued_finite : (x : Float) (s : Bool) (a c : ℕ) → HasValue x s a c → T (finite x)
valued_finite nan s a c h = h
valued_finite (inf t) s a c h = h
valued_finite (fin t m e) s a c h = tt

units_finite : (q k : ℕ) → T (le (units binary64 false q k) largest) → T (finite (units binary64 false q k))
unfolding units le of_bits of_fields odd
units_finite q k = go (ltb (q * 2 ^ k) (2 ^ 2098))
  where
    go : (b : Bool) → T (le (cond b (odd 54 false q k 1074) (inf false)) largest) → T (finite (cond b (odd 54 false q k 1074) (inf false)))
    go true t = valued_finite (odd 54 false q k 1074) false (q * 2 ^ k) (2 ^ 1074) (odd_sign 54 false q k 1074)
    go false t = t

-- a fraction up to one more than the largest, with either sign
round_finite : (s : Bool) (n c : ℕ) → 0 < c → n ≤ (biggest + 1) * c → T (finite (round binary64 s n c))
round_finite s n c p h =
    let q = kept 53 (n * 2 ^ 1074) c in
    let k = drop 53 (n * 2 ^ 1074) c in
    let low : T (le (round binary64 false n c) largest) = rw more_rounds at (round_mono binary64 n c (biggest + 1) 1 p (zero-lt-suc 0) (rw mul-one h)) in
    let unsigned : T (finite (round binary64 false n c)) = rw round_is (units_finite q k (rw round_is at low)) in
    rw round_is (valued_finite (units binary64 s q k) s (q * 2 ^ k) (2 ^ 1074) (units_val binary64 s q k (round_under binary64 n c unsigned)))

differences : (a b z : ℕ) → a + b ≤ z → (b - a ≤ z) × (a - b ≤ z)
differences a b z h = (omega arith, omega arith)

sum_finite : (s t : Bool) (a b c : ℕ) → 0 < c → a + b ≤ (biggest + 1) * c → T (finite (sum binary64 s a t b c))
unfolding sum
sum_finite s t a b c p h = go (beq s t) (ltb a b)
  where
    go : (x y : Bool) → T (finite (cond x (round binary64 s (a + b) c) (cond y (round binary64 t (b - a) c) (round binary64 (s && ltb b a) (a - b) c))))
    go true y = round_finite s (a + b) c p h
    go false true = round_finite t (b - a) c p (differences a b ((biggest + 1) * c) h).0
    go false false = round_finite (s && ltb b a) (a - b) c p (differences a b ((biggest + 1) * c) h).1

-- ---- one more than a finite double

one_more : (z a d : ℕ) → a ≤ z * d → a + 1 * 1 * d ≤ (z + 1) * (d * 1)
one_more z a d h = omega arith

size_plus_one : (s : Bool) (m : ℕ) (e : ℤ) → (T (ltb (biggest * down e) (m * up e * 1)) → ⊥) → T (finite (add binary64 (fin s m e) one))
unfolding add of_bits of_fields odd
size_plus_one s m e h =
    let a = m * up e * 1 in
    sum_finite s false a (1 * 1 * down e) (down e * 1) (omega (arith, down_pos e)) (one_more biggest a (down e) (nltb→le (biggest * down e) a (not_T (ltb (biggest * down e) a) h)))

plus_one : (x : Float) → T (finite x) → T (le (neg largest) x) → T (le x largest) → T (finite (add binary64 x one))
unfolding lt neg of_bits of_fields odd
plus_one (fin true m e) f g h = size_plus_one true m e (le_no_lt (neg largest) (fin true m e) g)
plus_one (fin false m e) f g h = size_plus_one false m e (le_no_lt (fin false m e) largest h)
plus_one nan f g h = elim f [ ]
plus_one (inf _) f g h = elim f [ ]

-- A finite double plus 1 is finite.
pub plus_one_finite : (x : Float) → Double x → finite (add binary64 x one) ≡ true
plus_one_finite x d =
    let b : T (le (neg largest) x && le x largest) = rw (finite_compared x d.is_held) at d.is_finite in
    is_true (finite (add binary64 x one)) (plus_one x d.is_finite (and_l (le (neg largest) x) (le x largest) b) (and_r (le (neg largest) x) (le x largest) b))

-- The nudge of a finite start goes on.
pub nudge_goes_on : (x : Float) → Double x → nudge x ≡ log (candidate (add binary64 x one)) (nudged_to (add binary64 x one))
unfolding nudge offered test
nudge_goes_on x d = rw (plus_one_finite x d)
