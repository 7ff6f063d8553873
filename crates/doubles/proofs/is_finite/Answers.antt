-- `doubles::is_finite` meets its contract. By cases, so that a wrong test is refused at the double that it gets wrong. Assumes nothing.
use mathlib.Core.Path.{◌≡◌, refl, sym, ap, ◌∙◌}
use mathlib.Core.Bool.{Bool, true, false, ◌&&◌, ◌||◌, cond, true≢false}
use mathlib.Core.Logic.{◌⊎◌, inl, inr}
use lib.Dec.{T, eqb}
use lib.IntN.{ℤ, pos, nat_abs}
use lib.Ieee.{Float, nan, inf, fin, binary64, fits, is_nan, of_bits, to_bits, of_fields, odd, size, neg, lt, le, eq}
use lib.Ieee.Bits.{is_true}
use lib.Ieee.Fits.{and_l, and_r}
use lib.Ieee.Scale.{finite}
use Rattle.doubles.specs.Doubles.{order_of, of_order}
use Rattle.doubles.proofs.Compare.{of_true}
use Rattle.doubles.specs.Number.{Double, largest}
use Rattle.doubles.proofs.Number.{finite_compared, eq_order, of_order_order}
use Rattle.doubles.proofs.is_finite.Goals as goal

-- what a double can be
data Sort (x : Float) : Type 0 where
  no_number : x ≡ nan → Sort x
  infinity : x ≡ inf false → Sort x
  minus_infinity : x ≡ inf true → Sort x
  the_largest : x ≡ largest → Sort x
  the_lowest : x ≡ neg largest → Sort x
  between : finite x ≡ true → lt (neg largest) x ≡ true → lt x largest ≡ true → Sort x

-- either end of what is finite
abbrev end : Bool → Float
end s = cond s (neg largest) largest

end_double : (s : Bool) → Double (end s)
unfolding of_bits of_fields odd neg fits
end_double true = record { is_finite = tt; is_held = tt }
end_double false = record { is_finite = tt; is_held = tt }

end_not_zero : (s : Bool) → order_of (end s) ≡ pos 0 → ⊥
unfolding order_of is_nan to_bits of_bits of_fields odd size neg
end_not_zero true z = true≢false (sym (ap (λ (k : ℤ). eqb (nat_abs k) 0) z))
end_not_zero false z = true≢false (sym (ap (λ (k : ℤ). eqb (nat_abs k) 0) z))

-- of two doubles that are not both zero, one that is at most the other is below it, or it is the other
below_or_same : (x y : Float) → Double x → Double y → (order_of x ≡ pos 0 → order_of y ≡ pos 0 → ⊥) → T (le x y) → (lt x y ≡ true) ⊎ (x ≡ y)
unfolding le
below_or_same x y d e n = go (lt x y) (eq x y) (λ h. same ((eq_order x y d e).0 h))
  where
    same : order_of x ≡ order_of y → x ≡ y
    same o = sym (of_order_order x d (λ z. n z (sym o ∙ z))) ∙ ap of_order o ∙ of_order_order y e (λ z. n (o ∙ z) z)

    go : (b c : Bool) → (c ≡ true → x ≡ y) → T (b || c) → (b ≡ true) ⊎ (x ≡ y)
    go true c f t = inl refl
    go false c f t = inr (f (is_true c t))

sort_finite : (x : Float) → Double x → finite x ≡ true → T (le (neg largest) x && le x largest) → Sort x
sort_finite x d f t = elim (below_or_same x largest d (end_double false) (λ _ z. end_not_zero false z) (and_r (le (neg largest) x) (le x largest) t)) [
  | inr e ↦ the_largest e
  | inl h ↦ elim (below_or_same (neg largest) x (end_double true) d (λ z _. end_not_zero true z) (and_l (le (neg largest) x) (le x largest) t)) [
    | inr e ↦ the_lowest (sym e)
    | inl l ↦ between f l h
  ]
]

sort_of : (x : Float) → T (fits binary64 x) → Sort x
sort_of nan f = no_number refl
sort_of (inf true) f = minus_infinity refl
sort_of (inf false) f = infinity refl
sort_of (fin s m e) f = sort_finite (fin s m e) (record { is_finite = tt; is_held = f }) refl (of_true _ (sym (finite_compared (fin s m e) f)))

pub returns : goal.returns
unfolding le eq of_bits of_fields odd neg
returns c = elim (sort_of c.args.x (rw c.well_formed.0.1 tt)) [
  | no_number e ↦ rw e refl
  | infinity e ↦ rw e refl
  | minus_infinity e ↦ rw e refl
  | the_largest e ↦ rw e refl
  | the_lowest e ↦ rw e refl
  | between f l h ↦ rw (l, h, f) refl
]
