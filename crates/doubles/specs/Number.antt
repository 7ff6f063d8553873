-- Finite doubles, and their patterns as counts of the smallest of them. Definitions only.
use Rattle.std.specs.Prelude.{ℕ, ◌*◌, ◌/◌, ◌^◌, T, ℤ, Float}
use Rattle.std.specs.Float.{binary64}
use Rattle.std.specs.Float.Ieee.{up, down, of_bits, fits}
use Rattle.std.specs.Float.Ieee.Scale.{finite}

-- a double that is finite
pub record Double (x : Float) : Type 0 where
  pub is_finite : T (finite x)
  pub is_held : T (fits binary64 x)

-- the pattern of plus infinity: above all patterns of finite doubles, without their sign
abbrev pub bound : ℕ
bound = 0x7ff0_0000_0000_0000

-- how many of the smallest double it is
abbrev pub many : ℕ → ℤ → ℕ
many m e = m * up e * 2 ^ 1074 / down e

-- the largest finite double, 1.7976931348623157e308
abbrev pub largest : Float
largest = of_bits binary64 0x7fef_ffff_ffff_ffff
