-- What an evaluation's answer says of the computed value. Definitions only.
use Rattle.std.specs.Prelude.{List, Float}
use Rattle.std.proofs.Math.Path.{◌≡◌}
use Rattle.numerical.specs.declared.Sample.{Sample}
use Rattle.searching.specs.Reasons.{True}

-- a sample that was answered is at its point, and true
pub record Answered (a : List Float) (x : Float) (p : Sample) : Type 0 where
  pub at_point : p.x ≡ x
  pub is_true : True a p
