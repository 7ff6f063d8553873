-- Values worked out. Assumes nothing.
use Rattle.std.specs.Prelude.{◌≡◌, refl, pos, negsuc, Float}
use Rattle.std.specs.Float.{binary64}
use Rattle.std.specs.Float.Ieee.{of_bits, of_fields, odd, to_bits, size, is_nan, neg, lt, le}
use Rattle.doubles.specs.Doubles.{nought, order_of, of_order, pulled}

abbrev one : Float
one = of_bits binary64 0x3ff0_0000_0000_0000

abbrev two : Float
two = of_bits binary64 0x4000_0000_0000_0000

abbrev three : Float
three = of_bits binary64 0x4008_0000_0000_0000

order_one : order_of one ≡ pos 0x3ff0_0000_0000_0000
unfolding order_of is_nan to_bits of_bits of_fields odd size
order_one = refl

order_minus_one : order_of (neg one) ≡ negsuc 0x3fef_ffff_ffff_ffff
unfolding order_of is_nan to_bits of_bits of_fields odd size neg
order_minus_one = refl

-- the smallest double above zero, and the largest below
smallest : (order_of (of_order (pos 1)) ≡ pos 1) × (order_of (of_order (negsuc 0)) ≡ negsuc 0)
unfolding order_of of_order is_nan to_bits of_bits of_fields odd size
smallest = (refl, refl)

-- between 1 and 2, in either order: 3 becomes 2, and 0 becomes 1
pulled_in_lem : (pulled one two three ≡ two) × (pulled two one three ≡ two) × (pulled one two nought ≡ one) × (pulled two one nought ≡ one)
unfolding pulled lt le of_bits of_fields odd
pulled_in_lem = (refl, refl, refl, refl)

-- 2 lies between 1 and 3
pulled_not : (pulled one three two ≡ two) × (pulled three one two ≡ two)
unfolding pulled lt le of_bits of_fields odd
pulled_not = (refl, refl)
