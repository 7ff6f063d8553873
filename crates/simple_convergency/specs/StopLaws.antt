-- Good tolerances, and a rule that passed its check. Definitions only.
use Rattle.std.specs.Prelude.{ℕ, ◌≤◌, false, ◌≡◌}
use Rattle.simple_convergency.specs.Stop.{greatest_limit, bad_tolerance}
use Rattle.simple_convergency.specs.declared.StopRule.{StopRule}
use Rattle.simple_convergency.specs.declared.Tolerances.{Tolerances}

-- where neither is bad, each is good
pub record Good (tolerances : Tolerances) : Type 0 where
  pub of_values : bad_tolerance tolerances.value ≡ false
  pub of_points : bad_tolerance tolerances.point ≡ false

-- a rule that passed the check: the numbers are those given, the tolerances are finite and not below the least, the limit is in range
pub record Passed (tolerances : Tolerances) (limit : ℕ) (stop : StopRule) : Type 0 where
  pub same_tolerances : stop.tolerances ≡ tolerances
  pub same_limit : stop.limit ≡ limit
  pub good : Good tolerances
  pub in_range : limit ≤ greatest_limit
