-- What the weights of the Illinois method weigh at the least. Definitions only.
use Rattle.std.specs.Prelude.{ℕ, ◌+◌, ◌≤◌, Bool, false, ◌≡◌, T}
use Rattle.doubles.specs.Doubles.{same_sign}
use Rattle.doubles.specs.Products.{stands}
use Rattle.doubles.specs.Sizes.{at_least}
use Rattle.simple_convergency.specs.Stop.{least_power, turns_of}
use Rattle.simple_convergency.specs.declared.StopRule.{StopRule}
use Rattle.regula_falsi.specs.declared.End.{End}
use Rattle.regula_falsi.specs.declared.Illinois.{Illinois}

-- an end with n steps left: it weighs 2 ^ -least_power, halved once a step at most, and its weight has its value's sign
pub record Weighs (stop : StopRule) (n : ℕ) (e : End) : Type 0 where
  pub power : ℕ
  pub bound : power + n ≤ least_power + turns_of stop
  pub size : T (at_least power e.weight)
  pub side : Bool
  pub weight_side : T (stands side e.weight)
  pub value_side : T (stands side e.at.y)

-- a state with n steps left
pub record Heavy (stop : StopRule) (n : ℕ) (s : Illinois) : Type 0 where
  pub left_end : Weighs stop n s.left
  pub right_end : Weighs stop n s.right
  pub apart : same_sign s.left.at.y s.right.at.y ≡ false
  pub within : n ≤ turns_of stop
