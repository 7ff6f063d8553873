-- The stop rule: its constants, which rules there are, and its tests. Definitions only.
use Rattle.std.specs.Prelude.{ℕ, max, Bool, true, cond, ltb, Float, Result, Ok, Err}
use Rattle.std.specs.Float.{binary64}
use Rattle.std.specs.Float.Ieee.{of_bits, lt, sub}
use Rattle.std.specs.Float.Ieee.Scale.{finite}
use Rattle.doubles.specs.Doubles.{absolute}
use Rattle.simple_convergency.specs.declared.StopRule.{StopRule}
use Rattle.simple_convergency.specs.declared.Tolerances.{Tolerances}
use Rattle.simple_convergency.specs.declared.BadRule.{BadRule}
use Rattle.simple_convergency.specs.declared.BadRule.TheVariants.{Tolerance, Limit}

-- "The stop rule owns its constants: least tolerance 2^-300, greatest limit 400, most coefficients 16"
abbrev pub least_tolerance : Float
least_tolerance = of_bits binary64 0x2d30_0000_0000_0000

-- the least tolerance is 2 ^ -least_power
abbrev pub least_power : ℕ
least_power = 300

abbrev pub greatest_limit : ℕ
greatest_limit = 400

abbrev pub most_coefficients : ℕ
most_coefficients = 16

-- "Plain `f64` used as a Convergency equals eps with limit 30"
abbrev pub plain_limit : ℕ
plain_limit = 30

abbrev pub tolerances_of : Float → Float → Tolerances
tolerances_of value point = record { value = value; point = point }

-- "One eps, as the Rust has it, sets both"
abbrev pub one_eps : Float → Tolerances
one_eps eps = tolerances_of eps eps

-- a tolerance that "isn't finite or is below 2^-300"
unfoldable pub bad_tolerance : Float → Bool
bad_tolerance tolerance = cond (finite tolerance) (lt tolerance least_tolerance) true

-- "4 if either is bad"
unfoldable pub either_bad : Tolerances → Bool
either_bad tolerances = cond (bad_tolerance tolerances.value) true (bad_tolerance tolerances.point)

-- the number of each among the refusals: 4 for a tolerance, 5 for the limit
abbrev pub bad_rule_number : BadRule → ℕ
bad_rule_number Tolerance = 4
bad_rule_number Limit = 5

-- a rule, or refusal 4 for its tolerances, or else refusal 5 for its limit
unfoldable pub checked_of : Tolerances → ℕ → Result StopRule BadRule
checked_of tolerances limit =
    cond (either_bad tolerances) (Err Tolerance)
    (cond (ltb greatest_limit limit) (Err Limit)
    (Ok (record { tolerances = tolerances; limit = limit })))

-- "'Found' means |y| < the value tolerance": strictly
unfoldable pub found_at : StopRule → Float → Bool
found_at stop y = lt (absolute y) stop.tolerances.value

-- "secant's and Newton's flatness tests" use it too: strictly
unfoldable pub flat_at : StopRule → Float → Bool
flat_at stop slope = lt (absolute slope) stop.tolerances.value

-- "'converged' means |p - q| < the point tolerance with the computed difference": strictly
unfoldable pub converged_at : StopRule → Float → Float → Bool
converged_at stop p q = lt (absolute (sub binary64 p q)) stop.tolerances.point

-- "m is the larger of 1 and limit"
abbrev pub turns_of : StopRule → ℕ
turns_of stop = max 1 stop.limit
