-- A point somewhere in the middle of an interval, as mod.rs has it, with signs tested in place of their product. Definitions only.
use Rattle.std.specs.Prelude.{Bool, false, cond, Float}
use Rattle.std.specs.Float.{binary64}
use Rattle.std.specs.Float.Ieee.{of_bits, add, sub, mul, div, neg, lt, ne}
use Rattle.doubles.specs.Doubles.{same_sign}
use Rattle.numerical.specs.declared.Interval.{Interval}

-- 2, 26 and 27
abbrev pub two : Float
two = of_bits binary64 0x4000_0000_0000_0000

abbrev pub twenty_six : Float
twenty_six = of_bits binary64 0x403a_0000_0000_0000

abbrev pub twenty_seven : Float
twenty_seven = of_bits binary64 0x403b_0000_0000_0000

abbrev pub width_of : Interval → Float
width_of i = sub binary64 i.end.x i.begin.x

-- where the chord crosses zero, from begin on
abbrev pub shift_of : Interval → Float
shift_of i = div binary64 (mul binary64 (neg i.begin.y) (width_of i)) (sub binary64 i.end.y i.begin.y)

-- "`middle` holds its shift to between 1/27 and 26/27 of the width, as computed"
unfoldable pub at_least : Float → Float → Float
at_least width shift = cond (lt shift (div binary64 width twenty_seven)) (div binary64 width twenty_seven) shift

unfoldable pub at_most : Float → Float → Float
at_most width shift =
    cond (lt (div binary64 (mul binary64 width twenty_six) twenty_seven) shift) (div binary64 (mul binary64 width twenty_six) twenty_seven) shift

-- not of the same sign, and not equal: there is a chord to follow
unfoldable pub crosses : Interval → Bool
crosses i = cond (same_sign i.begin.y i.end.y) false (ne i.begin.y i.end.y)

unfoldable pub middle_of : Interval → Float
middle_of i =
    cond (crosses i)
    (add binary64 i.begin.x (at_most (width_of i) (at_least (width_of i) (shift_of i))))
    (div binary64 (add binary64 i.begin.x i.end.x) two)
