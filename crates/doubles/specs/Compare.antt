-- What is a number and no NaN, and sizes that stand alike. Definitions only.
use Rattle.std.specs.Prelude.{◌↔◌, not, ℕ, ◌<◌, T}
use lib.Ieee.{Float, is_nan}

-- a number, be it finite or infinite
abbrev pub Num : Float → Type 0
Num x = T (not (is_nan x))

-- a and b stand to each other, and to 0, as u and v do
abbrev pub Like : ℕ → ℕ → ℕ → ℕ → Type 0
Like a b u v = (a < b ↔ u < v) × (b < a ↔ v < u) × (0 < a ↔ 0 < u) × (0 < b ↔ 0 < v)
