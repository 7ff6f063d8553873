-- Laws of the sums: a coefficient more at a time, and that the value's bits are the same beside the derivative.
use Rattle.std.proofs.lemmas.List.{append_assoc}
use Rattle.std.specs.Prelude.{false, ◌≡◌, refl, List, [], ◌∷◌, ◌++◌, ℕ, suc, ◌+◌, ◌<◌, length, drop, get_or, T, Float}
use Rattle.std.proofs.Common.{ap, ◌∙◌, arith, drop-cons}
use Rattle.std.proofs.Math.Seq.{drop-length}
use Rattle.std.specs.Float.{nan, binary64}
use Rattle.std.specs.Float.Ieee.{fits, of_bits}
use Rattle.std.specs.Float.Ieee.Fits.{add-fits, mul-fits}
use Rattle.doubles.specs.Sums.{minus_zero}
use Rattle.doubles.proofs.Sums.{sum_not_minus}
use Rattle.polynom.specs.declared.Sum.{Sum}
use Rattle.polynom.specs.Polynom.{nothing_summed, summed, sums, whole, value, sums_both, value_and_derivative}

pub sums_none : (a : List Float) (x : Float) (n : ℕ) → n ≡ length a → sums (drop n a) x ≡ nothing_summed
unfolding sums
sums_none a x n e = rw (e, drop-length)

-- the same sum, where the index is told in another way
pub sums_at : (a : List Float) (x : Float) {s : Sum} (m n : ℕ) → m ≡ n → sums (drop m a) x ≡ s → sums (drop n a) x ≡ s
sums_at a x m n e h = rw (← e) h

pub sums_more : (a : List Float) (x : Float) (i : ℕ) (s : Sum) → i < length a → sums (drop (1 + i) a) x ≡ s → sums (drop i a) x ≡ summed x (get_or a i nan) s
unfolding sums
sums_more a x i s h e = rw (drop-cons a i nan h, sums_at a x (1 + i) (suc i) (omega arith) e)

-- where the last of what is left goes over to what was passed
pub behind : (a left passed : List Float) (x : Float) (fewer : List Float) → a ≡ left ++ passed → left ≡ fewer ++ x ∷ [] → a ≡ fewer ++ x ∷ passed
behind a left passed x fewer e f = e ∙ rw f (append_assoc fewer (x ∷ []) passed)

same_sum : (a : List Float) (x : Float) → (sums_both a x).sum ≡ sums a x
unfolding sums_both sums
same_sum [] x = refl
same_sum (a ∷ rest) x = ap (summed x a) (same_sum rest x)

-- "The value there has the same bits as `value`."
pub same_value : (a : List Float) (x : Float) → (value_and_derivative a x).value ≡ record { x = x; y = value a x }
unfolding value_and_derivative value
same_value a x = ap (λ (s : Sum). record { x = x; y = whole s }) (same_sum a x)

-- ---- no computed value is minus zero

-- the sum begins with plus zero, and both numbers fit their format
sums_plus : (a : List Float) (x : Float) → T (fits binary64 (sums a x).result) × (minus_zero (sums a x).result ≡ false) × T (fits binary64 (sums a x).xn)
unfolding sums fits of_bits
sums_plus [] x = (tt, refl, tt)
sums_plus (a ∷ rest) x = let t = sums_plus rest x in (add-fits binary64 _ _, sum_not_minus (sums rest x).result _ t.0 (mul-fits binary64 a _) t.1, mul-fits binary64 (sums rest x).xn x)

pub value_not_minus : (a : List Float) (x : Float) → minus_zero (value a x) ≡ false
unfolding value
value_not_minus a x = let t = sums_plus a x in sum_not_minus (sums a x).result (sums a x).xn t.0 t.2 t.1
