-- `doubles::of_order` meets its contract: what the machine reads back from the bits of k, or of its negation, is that number, since it fits. Assumes nothing.
-- ---- no double has the number
-- ---- a double has it
use mathlib.Core.Path.{◌≡◌, refl, sym, ap, ◌∙◌, subst}
use Prim.Native.Nat.{ℕ, suc, ◌+◌, ◌^◌, ◌<◌, ◌≤◌}
use native.Mathlib.Omega.{arith}
use mathlib.Core.Bool.{true, false, not, true≢false}
use lib.Dec.{T}
use lib.IntN.{ℤ, pos, negsuc, nat_abs, ◌-ℤ◌, +ℤ_idl}
use lib.Signed.{le_z, lt_z, non_neg}
use lib.Ieee.{binary64, nan, of_bits, of_fields, odd, nan_bits}
use mir.Syntax.{w64}
use mir.Val.{to_z, of_z, SFits, Fits}
use mir.Facts.{to_z-of_z}
use borrow.Author.Rules.{sfits_of}
use borrow.Author.Tests.{leb-true, leb-false, ltb-true, le-ltb}
use Rattle.doubles.specs.Doubles.{pattern_of, of_order}
use Rattle.doubles.specs.Number.{bound}
use Rattle.doubles.proofs.Number.{low_no_nan, of_order_is}
use Rattle.doubles.proofs.of_order.Goals as goal

-- z as the machine reads it back
abbrev again : ℤ → ℤ
again z = to_z w64 (of_z w64 z)

no_number : of_bits binary64 0x7ff8_0000_0000_0000 ≡ nan
unfolding of_bits of_fields odd
no_number = refl

too_large : (k : ℤ) → bound ≤ nat_abs k → of_bits binary64 0x7ff8_0000_0000_0000 ≡ of_order k
unfolding of_order
too_large k h = no_number ∙ rw (le-ltb (nat_abs k) bound h)

far_below : (k : ℤ) → le_z k (negsuc 0x7fef_ffff_ffff_ffff) ≡ true → bound ≤ nat_abs k
far_below (pos n) h = absurd (true≢false (sym h))
far_below (negsuc n) h = omega (arith, leb-true 0x7fef_ffff_ffff_ffff n h)

far_above : (k : ℤ) → le_z (pos bound) k ≡ true → bound ≤ nat_abs k
far_above (pos n) h = leb-true bound n h
far_above (negsuc n) h = absurd (true≢false (sym h))

small : (k : ℤ) → le_z k (negsuc 0x7fef_ffff_ffff_ffff) ≡ false → le_z (pos bound) k ≡ false → nat_abs k < bound
small (pos n) l h = leb-false bound n h
small (negsuc n) l h = omega (arith, leb-false 0x7fef_ffff_ffff_ffff n l)

record Under (k : ℤ) : Type 0 where
  turned_is : pos 0 -ℤ k ≡ pos (nat_abs k)
  pattern_is : pattern_of k ≡ 2 ^ 63 + nat_abs k

under : (k : ℤ) → lt_z k (pos 0) ≡ true → Under k
under (pos n) h = absurd (no n (ltb-true n 0 h))
  where
    no : (n : ℕ) → n < 0 → ⊥
    no n h = omega arith
under (negsuc n) h = record { turned_is = +ℤ_idl (pos (suc n)); pattern_is = omega arith }

record Over (k : ℤ) : Type 0 where
  kept_is : k ≡ pos (nat_abs k)
  pattern_is : pattern_of k ≡ nat_abs k

over : (k : ℤ) → lt_z k (pos 0) ≡ false → Over k
over (pos n) h = record { kept_is = refl; pattern_is = refl }
over (negsuc n) h = absurd (true≢false h)

pos_fits : (z : ℤ) (n : ℕ) → n < bound → z ≡ pos n → SFits w64 z
pos_fits z n l e = rw e (sfits_of (omega arith))

cast_ok : (z : ℤ) (n : ℕ) → n < bound → z ≡ pos n → T (non_neg z) × Fits w64 (nat_abs z)
cast_ok z n l e = rw e (tt, record { fits = omega arith })

module _ (k : ℤ) (f : SFits w64 k) where
  same : again k ≡ k
  same = to_z-of_z f

  below_all : le_z (again k) (negsuc 0x7fef_ffff_ffff_ffff) ≡ true → of_bits binary64 0x7ff8_0000_0000_0000 ≡ of_order k
  below_all h = too_large k (far_below k (subst (λ (z : ℤ). le_z z (negsuc 0x7fef_ffff_ffff_ffff) ≡ true) same h))

  above_all : le_z (pos bound) (again k) ≡ true → of_bits binary64 0x7ff8_0000_0000_0000 ≡ of_order k
  above_all h = too_large k (far_above k (subst (λ (z : ℤ). le_z (pos bound) z ≡ true) same h))

  module _ (low : le_z (again k) (negsuc 0x7fef_ffff_ffff_ffff) ≡ false) (high : le_z (pos bound) (again k) ≡ false) where
    in_range : nat_abs k < bound
    in_range = small k (subst (λ (z : ℤ). le_z z (negsuc 0x7fef_ffff_ffff_ffff) ≡ false) same low) (subst (λ (z : ℤ). le_z (pos bound) z ≡ false) same high)

    module _ (sign : lt_z (again k) (pos 0) ≡ true) where
      u : Under k
      u = under k (subst (λ (z : ℤ). lt_z z (pos 0) ≡ true) same sign)

      turned : pos 0 -ℤ again k ≡ pos (nat_abs k)
      turned = ap (λ (z : ℤ). pos 0 -ℤ z) same ∙ u.turned_is

      turned_fits : SFits w64 (pos 0 -ℤ again k)
      turned_fits = pos_fits (pos 0 -ℤ again k) (nat_abs k) in_range turned

      turned_read : again (pos 0 -ℤ again k) ≡ pos (nat_abs k)
      turned_read = to_z-of_z turned_fits ∙ turned

      turned_cast : T (non_neg (again (pos 0 -ℤ again k))) × Fits w64 (nat_abs (again (pos 0 -ℤ again k)))
      turned_cast = cast_ok (again (pos 0 -ℤ again k)) (nat_abs k) in_range turned_read

      turned_size : nat_abs (again (pos 0 -ℤ again k)) ≡ nat_abs k
      turned_size = ap nat_abs turned_read

      sum_fits : Fits w64 (2 ^ 63 + nat_abs (again (pos 0 -ℤ again k)))
      sum_fits = rw turned_size (record { fits = omega (arith, in_range) })

      sum_no_nan : T (not (nan_bits binary64 (2 ^ 63 + nat_abs (again (pos 0 -ℤ again k)))))
      sum_no_nan = rw (turned_size, low_no_nan (2 ^ 63 + nat_abs k) (omega (arith, in_range))) tt

      sum_made : of_bits binary64 (2 ^ 63 + nat_abs (again (pos 0 -ℤ again k))) ≡ of_order k
      sum_made = rw (turned_size, ← u.pattern_is) (sym (of_order_is k in_range))

    module _ (sign : lt_z (again k) (pos 0) ≡ false) where
      o : Over k
      o = over k (subst (λ (z : ℤ). lt_z z (pos 0) ≡ false) same sign)

      kept_cast : T (non_neg (again k)) × Fits w64 (nat_abs (again k))
      kept_cast = cast_ok (again k) (nat_abs k) in_range (same ∙ o.kept_is)

      kept_no_nan : T (not (nan_bits binary64 (nat_abs (again k))))
      kept_no_nan = rw (same, low_no_nan (nat_abs k) (omega (arith, in_range))) tt

      kept_made : of_bits binary64 (nat_abs (again k)) ≡ of_order k
      kept_made = rw (same, ← o.pattern_is) (sym (of_order_is k in_range))

pub returns-then-k-leminus9218868437227405312 : goal.returns-then-k-leminus9218868437227405312
returns-then-k-leminus9218868437227405312 c = search below_all

pub returns-then-k-ge9218868437227405312 : goal.returns-then-k-ge9218868437227405312
returns-then-k-ge9218868437227405312 c = search above_all

pub overflow_sub-size : goal.overflow_sub-size
overflow_sub-size c = search turned_fits

pub overflow_cast-size : goal.overflow_cast-size
overflow_cast-size c = turned_cast c.args.k c.ranges.k c.if-k-leminus9218868437227405312.false c.if-k-ge9218868437227405312.false c.if-k-lt0.true

pub overflow_add-result : goal.overflow_add-result
overflow_add-result c = search sum_fits

pub float_from_bits-result : goal.float_from_bits-result
float_from_bits-result c = search sum_no_nan

pub overflow_cast-result : goal.overflow_cast-result
overflow_cast-result c = kept_cast c.args.k c.ranges.k c.if-k-leminus9218868437227405312.false c.if-k-ge9218868437227405312.false c.if-k-lt0.false

pub float_from_bits-result-else-k-lt0 : goal.float_from_bits-result-else-k-lt0
float_from_bits-result-else-k-lt0 c = search kept_no_nan

pub returns-then-k-lt0 : goal.returns-then-k-lt0
returns-then-k-lt0 c = search sum_made

pub returns-else-k-lt0 : goal.returns-else-k-lt0
returns-else-k-lt0 c = search kept_made
