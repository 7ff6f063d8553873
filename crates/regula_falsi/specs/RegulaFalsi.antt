-- The Illinois form of regula falsi, step by step as regula_falsi.rs has it. Definitions only.
use Rattle.std.specs.Prelude.{Bool, true, false, not, cond, Float, List}
use Rattle.std.specs.Float.{binary64}
use Rattle.std.specs.Float.Ieee.{sub, mul, div}
use Rattle.numerical.specs.declared.Answer.{Answer}
use Rattle.numerical.specs.declared.Answer.TheVariants.{ByWidth}
use Rattle.numerical.specs.declared.Interval.{Interval}
use Rattle.numerical.specs.declared.Outcome.{Outcome}
use Rattle.numerical.specs.declared.Sample.{Sample}
use Rattle.simple_convergency.specs.Stop.{turns_of}
use Rattle.simple_convergency.specs.declared.StopRule.{StopRule}
use Rattle.doubles.specs.Doubles.{above, same_sign}
use Rattle.numerical.specs.Middle.{two}
use Rattle.searching.specs.Programs.{rising, found, converged, ruled, Prog, log, Turned, stops, answers, by_value, value_at, offered, pulled_into, bracketed, narrows_to, searches, answer_of}
use Rattle.regula_falsi.specs.declared.End.{End}
use Rattle.regula_falsi.specs.declared.Edge.{Edge}
use Rattle.regula_falsi.specs.declared.Edge.TheVariants.{EdgeX1, NoEdge, EdgeX2}
use Rattle.regula_falsi.specs.declared.Illinois.{Illinois}

-- an end with its full weight, and with half of it
abbrev pub whole : Sample → End
whole p = record { at = p; weight = p.y }

abbrev pub halved : End → End
halved e = record { at = e.at; weight = div binary64 e.weight two }

abbrev pub pair_of : Illinois → Interval
pair_of s = record { begin = s.left.at; end = s.right.at }

-- ---- the opening: "The first value is tested for found before the second is evaluated; then the second; then 6"

unfoldable pub second_at : StopRule → Sample → Sample → Prog (Turned Illinois)
second_at stop p q =
    stops stop (found q)
    (by_value q)
    (bracketed stop p q (record { left = whole p; right = whole q; edge = NoEdge }))

unfoldable pub first_at : StopRule → Float → Sample → Prog (Turned Illinois)
first_at stop x2 p =
    stops stop (found p)
    (by_value p)
    (value_at x2 (second_at stop p))

unfoldable pub ordered : StopRule → Float → Float → Prog (Turned Illinois)
ordered stop x1 x2 = value_at x1 (first_at stop x2)

-- "Starts are ordered, smaller first; equal ones keep their order"
unfoldable pub opening : StopRule → Float → Float → Prog (Turned Illinois)
opening stop a b = rising a b (ordered stop)

-- ---- a step

-- (x1 * y2 - x2 * y1) / (y2 - y1), with the weights for the values
unfoldable pub candidate_of : Illinois → Float
candidate_of s =
    div binary64
    (sub binary64 (mul binary64 s.left.at.x s.right.weight) (mul binary64 s.right.at.x s.left.weight))
    (sub binary64 s.right.weight s.left.weight)

-- "if the step before replaced that same end, the other end's weight is halved"
abbrev pub right_after : Edge → End → End
right_after EdgeX1 e = halved e
right_after NoEdge e = e
right_after EdgeX2 e = e

abbrev pub left_after : Edge → End → End
left_after EdgeX1 e = e
left_after NoEdge e = e
left_after EdgeX2 e = halved e

abbrev pub left_replaced : Illinois → Sample → Illinois
left_replaced s p = record { left = whole p; right = right_after s.edge s.right; edge = EdgeX1 }

abbrev pub right_replaced : Illinois → Sample → Illinois
right_replaced s p = record { left = left_after s.edge s.left; right = whole p; edge = EdgeX2 }

-- "x replaces the end whose sign it shares"
unfoldable pub replaced_of : Illinois → Sample → Illinois
replaced_of s p = cond (same_sign p.y s.left.at.y) (left_replaced s p) (right_replaced s p)

-- whether the Rust, which tests the products with the weights in turn and has a last branch, would go elsewhere
abbrev pub elsewhere : Bool → Bool → Bool → Bool
elsewhere true first second = not first
elsewhere false true second = true
elsewhere false false second = not second

abbrev pub departs_from : Bool → Illinois → Sample → Bool
departs_from same s p =
    elsewhere same
    (above (mul binary64 p.y s.left.weight))
    (above (mul binary64 p.y s.right.weight))

unfoldable pub departs : Illinois → Sample → Bool
departs s p = departs_from (same_sign p.y s.left.at.y) s p

-- "Then it evaluates x, tests found"
unfoldable pub arrived : StopRule → Illinois → Sample → Prog (Turned Illinois)
arrived stop s p =
    stops stop (found p)
    (by_value p)
    (log (ruled 1 (departs s p)) (narrows_to pair_of (replaced_of s p)))

-- "then tests converged (x1, x2), giving x unevaluated by width with pair (x1, x2)"
unfoldable pub landed : StopRule → Illinois → Float → Prog (Turned Illinois)
landed stop s x =
    stops stop (converged s.left.at.x s.right.at.x)
    (answers (ByWidth x s.left.at.x s.right.at.x))
    (value_at x (arrived stop s))

unfoldable pub pulled_in : StopRule → Illinois → Float → Prog (Turned Illinois)
pulled_in stop s x = pulled_into s.left.at.x s.right.at.x x (landed stop s)

-- "A step computes x, refuses 9 if x isn't finite, pulls it"
unfoldable pub turn_from : StopRule → Illinois → Prog (Turned Illinois)
turn_from stop s = offered (candidate_of s) (pulled_in stop s)

-- ---- the search

unfoldable pub illinois_program : StopRule → Float → Float → Prog Answer
illinois_program stop a b = searches (opening stop a b) (λ r. turns_of stop) (turn_from stop)

unfoldable pub regula_falsi : List Float → StopRule → Float → Float → Outcome
regula_falsi cs stop a b = answer_of cs (illinois_program stop a b)
