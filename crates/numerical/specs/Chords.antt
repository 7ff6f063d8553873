-- The line through two samples. Definitions only.
use Rattle.std.specs.Prelude.{Float}
use Rattle.std.specs.Float.{binary64}
use Rattle.std.specs.Float.Ieee.{sub, mul, div}
use Rattle.numerical.specs.declared.Sample.{Sample}

-- where it crosses zero: x2 - y2 * (x2 - x1) / (y2 - y1)
abbrev pub chord_of : Sample → Sample → Float
chord_of p q = sub binary64 q.x (div binary64 (mul binary64 q.y (sub binary64 q.x p.x)) (sub binary64 q.y p.y))
