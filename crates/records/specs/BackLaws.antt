-- Doubles from their bits. Definitions only.
use Prim.Native.Nat.{ℕ}
use Rattle.std.specs.Prelude.{Float}
use mathlib.Core.List.{List, [], ◌∷◌}
use Rattle.std.specs.Float.Ieee.{binary64, of_bits}

unfoldable pub doubles_of : List ℕ → List Float
doubles_of [] = []
doubles_of (n ∷ l) = of_bits binary64 n ∷ doubles_of l
