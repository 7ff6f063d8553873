-- The size of a number against a power of two. Definitions only.
use Rattle.std.specs.Prelude.{ℕ, ◌*◌, ◌^◌, Bool, true, false, leb, pos, Float}
use Rattle.std.specs.Float.{nan, inf, fin}
use Rattle.std.specs.Float.Ieee.{up, down}

-- whether x is 2 ^ -k or more in size
abbrev pub at_least : ℕ → Float → Bool
at_least k nan = false
at_least k (inf s) = true
at_least k (fin s m e) = leb (down e) (m * up e * 2 ^ k)

abbrev pub twice : Float
twice = fin false 1 (pos 1)
