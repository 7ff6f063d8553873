-- The polynomial x^n + a[0]x^(n-1) + .. + a[n-1]: its value and derivative, every sum and product in the Rust's order. Definitions only.
use Rattle.std.specs.Prelude.{cond, List, [], ◌∷◌, Float}
use Rattle.std.specs.Float.{binary64}
use Rattle.std.specs.Float.Ieee.{of_bits, add, sub, mul, div}
use Rattle.std.specs.Float.Ieee.Scale.{finite}
use Rattle.doubles.specs.Doubles.{nought}
use Rattle.numerical.specs.declared.Sample.{Sample}
use Rattle.polynom.specs.declared.Sum.{Sum}
use Rattle.polynom.specs.declared.ValueAndDerivative.{ValueAndDerivative}
use Rattle.std.specs.Prelude.{Option, Some, None}

abbrev pub one : Float
one = of_bits binary64 0x3ff0_0000_0000_0000

-- ---- "The value adds from a[n-1] upwards, with xn growing by one factor x each time"

-- a Sum is the sum so far, and the next power of x
abbrev pub nothing_summed : Sum
nothing_summed = record { result = nought; xn = one }

abbrev pub summed : Float → Float → Sum → Sum
summed x a s = record { result = add binary64 s.result (mul binary64 a s.xn); xn = mul binary64 s.xn x }

-- the last coefficient's term comes first
unfoldable pub sums : List Float → Float → Sum
sums [] x = nothing_summed
sums (a ∷ rest) x = summed x a (sums rest x)

-- "and adds the last xn at the end"
abbrev pub whole : Sum → Float
whole s = add binary64 s.result s.xn

unfoldable pub value : List Float → Float → Float
value a x = whole (sums a x)

-- ---- the value with its derivative, worked out together

-- besides the sum: the derivative's sum, the power before xn, and how many coefficients were passed
pub record Sums : Type 0 where
  pub sum : Sum
  pub derivative : Float
  pub xn1 : Float
  pub n : Float

abbrev pub nothing_summed_both : Sums
nothing_summed_both = record { sum = nothing_summed; derivative = nought; xn1 = nought; n = nought }

-- "a term is (a * n) * xn1"
abbrev pub summed_both : Float → Float → Sums → Sums
summed_both x a s =
    record {
      sum = summed x a s.sum;
      derivative = add binary64 s.derivative (mul binary64 (mul binary64 a s.n) s.xn1);
      xn1 = s.sum.xn;
      n = add binary64 s.n one;
    }

unfoldable pub sums_both : List Float → Float → Sums
sums_both [] x = nothing_summed_both
sums_both (a ∷ rest) x = summed_both x a (sums_both rest x)

abbrev pub whole_both : Float → Sums → ValueAndDerivative
whole_both x s = record { value = record { x = x; y = whole s.sum }; derivative = add binary64 s.derivative (mul binary64 s.n s.xn1) }

unfoldable pub value_and_derivative : List Float → Float → ValueAndDerivative
value_and_derivative a x = whole_both x (sums_both a x)

-- x - f / d: where the tangent crosses zero
unfoldable pub newton_point : ValueAndDerivative → Float
newton_point v = sub binary64 v.value.x (div binary64 v.value.y v.derivative)

-- ---- "when an evaluation answers refusal 9 in place of a sample"

abbrev pub sample_of : Float → Float → Sample
sample_of x y = record { x = x; y = y }

abbrev pub sample_if_finite : Float → Float → Option Sample
sample_if_finite x y = cond (finite y) (Some (sample_of x y)) None

-- a sample at x, or that its value is not finite
unfoldable pub evaluated : List Float → Float → Option Sample
evaluated a x = sample_if_finite x (value a x)

abbrev pub both_if_finite : ValueAndDerivative → Option ValueAndDerivative
both_if_finite v = cond (finite v.value.y) (cond (finite v.derivative) (Some v) None) None

-- "they are worked out together and then checked"
unfoldable pub evaluated_both : List Float → Float → Option ValueAndDerivative
evaluated_both a x = both_if_finite (value_and_derivative a x)
