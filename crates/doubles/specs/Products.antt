-- On which side of zero a number stands. Definitions only.
use Rattle.std.specs.Prelude.{Bool, false, ◌&&◌, ltb, Float}
use Rattle.std.specs.Bool.{beq}
use Rattle.std.specs.Float.{nan, inf, fin}

-- whether x is a number on the side s of zero: below it where s is true, and above it otherwise
abbrev pub stands : Bool → Float → Bool
stands s nan = false
stands s (inf t) = beq s t
stands s (fin t m e) = beq s t && ltb 0 m
