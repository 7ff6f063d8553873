-- Which double is minus zero. Definitions only.
use Rattle.std.specs.Prelude.{Bool, false, ◌&&◌, eqb, Float}
use Rattle.std.specs.Float.{nan, inf, fin}

abbrev pub minus_zero : Float → Bool
minus_zero nan = false
minus_zero (inf s) = false
minus_zero (fin s m e) = s && eqb m 0
