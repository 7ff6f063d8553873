use mathlib.Core.Path.{◌≡◌}
use Prim.Native.Nat.{◌<◌, ◌^◌}
use lib.ListN.{drop}
use Rattle.line_text.specs.Digits.{number_from}
use Rattle.line_text.proofs.digits.number_in.Given as goal

abbrev pub invariant-loop-b : goal.invariant-loop-b
invariant-loop-b l = (l.v < 2 ^ 64) × (number_from l.base l.v (drop l.b-index l.t) ≡ number_from l.base 0 l.t)
