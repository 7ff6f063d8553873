-- Values that the definitions compute: x^2 - 2 at 2, and its derivative there.
use Rattle.std.specs.Prelude.{◌≡◌, refl, [], ◌∷◌}
use Rattle.std.specs.Float.{binary64}
use Rattle.std.specs.Float.Ieee.{of_bits, add, mul}
use Rattle.polynom.specs.Polynom.{sums, value, sums_both, value_and_derivative}

-- [0, -2] at 2 is 2
squared_less_two : value (of_bits binary64 0 ∷ of_bits binary64 0xc000_0000_0000_0000 ∷ []) (of_bits binary64 0x4000_0000_0000_0000) ≡ of_bits binary64 0x4000_0000_0000_0000
unfolding value sums add mul of_bits
squared_less_two = refl

-- its derivative there is 4
twice : (value_and_derivative (of_bits binary64 0 ∷ of_bits binary64 0xc000_0000_0000_0000 ∷ []) (of_bits binary64 0x4000_0000_0000_0000)).derivative ≡ of_bits binary64 0x4010_0000_0000_0000
unfolding value_and_derivative sums_both add mul of_bits
twice = refl
