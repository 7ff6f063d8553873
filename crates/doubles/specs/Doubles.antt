-- Doubles: size, signs, the order number, and a point pulled into a pair. Definitions only.
use Rattle.std.specs.Prelude.{Bool, true, cond, ◌&&◌, ℕ, ◌+◌, ◌-◌, ◌/◌, ◌%◌, ◌^◌, leb, ltb, eqb, ℤ, pos, negsuc, neg_ℤ, nat_abs}
use lib.Ieee.{Float, binary64, nan, of_bits, to_bits, is_nan, lt, le, neg}

-- plus zero
abbrev pub nought : Float
nought = of_bits binary64 0

abbrev pub exponent_width : ℕ
exponent_width = 11

-- of a pattern: "A number is finite unless its eleven exponent bits are all ones". Which doubles are finite is `finite` of lib.Ieee.Scale;
-- `finite_exponent` of proofs/Number says that it is this, and `finite_compared` that comparisons tell it.
abbrev pub exponent_all_ones : ℕ → Bool
exponent_all_ones bits = eqb (bits / 2 ^ 52 % 2 ^ exponent_width) (2 ^ exponent_width - 1)

-- "`abs` is written out"
unfoldable pub absolute : Float → Float
absolute x = cond (lt x nought) (neg x) x

abbrev pub above : Float → Bool
above x = lt nought x

abbrev pub below : Float → Bool
below x = lt x nought

-- "'Same' is both above zero or both below"
unfoldable pub same_sign : Float → Float → Bool
same_sign a b = cond (above a) (above b) (below a && below b)

-- "'opposite' is one above and one below"
unfoldable pub opposite_sign : Float → Float → Bool
opposite_sign a b = cond (above a) (below b) (below a && above b)

-- a pattern's low 63 bits, negated if the sign bit is set
abbrev pub signed63 : ℕ → ℤ
signed63 bits = cond (leb (2 ^ 63) bits) (neg_ℤ (pos (bits % 2 ^ 63))) (pos (bits % 2 ^ 63))

-- "Finite doubles are ordered by a whole number: the low 63 bits, negated if the sign bit is set." A NaN, which is none, has 0.
unfoldable pub order_of : Float → ℤ
order_of x = cond (is_nan x) (pos 0) (signed63 (to_bits binary64 x))

-- the pattern with that order number; 0 is plus zero's
abbrev pub pattern_of : ℤ → ℕ
pattern_of (pos n) = n
pattern_of (negsuc n) = 2 ^ 63 + (n + 1)

-- the finite double with that order number, and a NaN where there is none
unfoldable pub of_order : ℤ → Float
of_order k = cond (ltb (nat_abs k) 0x7ff0_0000_0000_0000) (of_bits binary64 (pattern_of k)) nan

-- ---- a pair in either order

abbrev pub clamp : Float → Float → Float → Float
clamp low high x = cond (lt x low) low (cond (lt high x) high x)

abbrev pub beyond : Float → Float → Float → Bool
beyond low high x = cond (lt x low) true (lt high x)

-- "a finite candidate outside the present pair becomes the nearer end"
unfoldable pub pulled : Float → Float → Float → Float
pulled u v x = cond (le u v) (clamp u v x) (clamp v u x)

unfoldable pub outside : Float → Float → Float → Bool
outside u v x = cond (le u v) (beyond u v x) (beyond v u x)

-- of two numbers; where one is a NaN, the lower is the second and the higher the first
abbrev pub lower : Float → Float → Float
lower u v = cond (lt u v) u v

abbrev pub higher : Float → Float → Float
higher u v = cond (lt u v) v u
