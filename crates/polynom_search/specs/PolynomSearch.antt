-- The polynomial search, step by step as find_root of polynom.rs has it. Definitions only.
use Rattle.std.specs.Prelude.{Bool, false, cond, Option, Some, None, Float, List}
use Rattle.std.specs.Float.Ieee.{lt, le, ne}
use Rattle.std.specs.Float.Ieee.Scale.{finite}
use Rattle.numerical.specs.declared.Answer.{Answer}
use Rattle.numerical.specs.declared.Answer.TheVariants.{ByWidth}
use Rattle.numerical.specs.declared.Interval.{Interval}
use Rattle.numerical.specs.declared.Outcome.{Outcome}
use Rattle.numerical.specs.declared.Progress.{Progress}
use Rattle.numerical.specs.declared.Sample.{Sample}
use Rattle.simple_convergency.specs.Stop.{turns_of}
use Rattle.simple_convergency.specs.declared.StopRule.{StopRule}
use Rattle.doubles.specs.Doubles.{nought, absolute, same_sign}
use Rattle.numerical.specs.Middle.{middle_of}
use Rattle.polynom.specs.Polynom.{newton_point}
use Rattle.polynom.specs.declared.ValueAndDerivative.{ValueAndDerivative}
use Rattle.searching.specs.Programs.{rising, found, converged, ruled, Prog, log, Turned, test, stops, answers, by_value, value_at, both_at, offered, pulled_into, product_departs, bracketed, narrows_to, searches, answer_of}
use Rattle.searching.specs.Rules.{placed_in}
use Rattle.searching.specs.declared.Placed.{Placed}

-- ---- the opening: "Both ends are evaluated, then 6, even when an end is within the value tolerance"

unfoldable pub second_at : StopRule → Sample → Sample → Prog (Turned Interval)
second_at stop p q = bracketed stop p q (record { begin = p; end = q })

unfoldable pub first_at : StopRule → Float → Sample → Prog (Turned Interval)
first_at stop end p = value_at end (second_at stop p)

unfoldable pub ordered : StopRule → Float → Float → Prog (Turned Interval)
ordered stop begin end = value_at begin (first_at stop end)

-- "Starts are ordered likewise": smaller first, and equal ones keep their order
unfoldable pub opening : StopRule → Float → Float → Prog (Turned Interval)
opening stop a b = rising a b (ordered stop)

-- ---- a step

abbrev pub pair_of : Interval → Interval
pair_of i = i

-- "The chosen sample replaces end if not of the same sign as begin's value, otherwise begin"
unfoldable pub replaced_of : Interval → Sample → Interval
replaced_of i p =
    cond (same_sign i.begin.y p.y)
    (record { begin = p; end = i.end })
    (record { begin = i.begin; end = p })

unfoldable pub chosen : Interval → Sample → Prog (Turned Interval)
chosen i p = log (ruled 1 (product_departs i.begin p)) (narrows_to pair_of (replaced_of i p))

-- "its value is computed, and it is taken only if strictly smaller in size"
unfoldable pub closer : Interval → Sample → Sample → Prog (Turned Interval)
closer i middle p = test (lt (absolute p.y) (absolute middle.y)) (chosen i p) (chosen i middle)

-- "A Newton point that isn't finite is simply outside"
unfoldable pub in_pair : Interval → Float → Bool
in_pair i x = cond (le i.begin.x x) (le x i.end.x) false

-- "If the derivative is nonzero and the Newton point lies in the pair"
unfoldable pub usable : Interval → ValueAndDerivative → Bool
usable i v = cond (ne v.derivative nought) (in_pair i (newton_point v)) false

unfoldable pub at_middle : Interval → ValueAndDerivative → Prog (Turned Interval)
at_middle i v =
    test (usable i v)
    (value_at (newton_point v) (closer i v.value))
    (chosen i v.value)

-- "A step evaluates value and derivative at `middle`"
unfoldable pub step_at : Interval → Float → Prog (Turned Interval)
step_at i x = both_at x (at_middle i)

unfoldable pub width_at : Interval → Float → Prog (Turned Interval)
width_at i x = answers (ByWidth x i.begin.x i.end.x)

-- "there `middle`, by width too": refused 9 if it isn't finite, and pulled
unfoldable pub pulled_in : Interval → (Float → Prog (Turned Interval)) → Float → Prog (Turned Interval)
pulled_in i k x = pulled_into i.begin.x i.end.x x k

unfoldable pub at_middle_of : Interval → (Float → Prog (Turned Interval)) → Prog (Turned Interval)
at_middle_of i k = offered (middle_of i) (pulled_in i k)

-- "Each round tests found at begin, found at end, then converged, which gives `middle` by width with pair (begin, end)"
unfoldable pub turn_from : StopRule → Interval → Prog (Turned Interval)
turn_from stop i =
    stops stop (found i.begin)
    (by_value i.begin)
    (stops stop (found i.end)
    (by_value i.end)
    (stops stop (converged i.begin.x i.end.x)
    (at_middle_of i (width_at i))
    (at_middle_of i (step_at i))))

-- ---- the search

unfoldable pub polynom_program : StopRule → Float → Float → Prog Answer
polynom_program stop a b = searches (opening stop a b) (λ r. turns_of stop) (turn_from stop)

unfoldable pub polynom_search : List Float → StopRule → Float → Float → Outcome
polynom_search cs stop a b = answer_of cs (polynom_program stop a b)

-- ---- what the code works out before a step

-- `middle` pulled into the pair, with the mark of that, unless it isn't finite
abbrev pub middle_in : Interval → Progress → Option Placed
middle_in i p = cond (finite (middle_of i)) (Some (placed_in i.begin.x i.end.x (middle_of i) p)) None
