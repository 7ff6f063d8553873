-- The secant method, step by step as secant.rs has it. Definitions only.
use Rattle.std.specs.Prelude.{Float, List}
use Rattle.std.specs.Float.{binary64}
use Rattle.std.specs.Float.Ieee.{sub}
use Rattle.numerical.specs.Chords.{chord_of}
use Rattle.numerical.specs.declared.Answer.{Answer}
use Rattle.numerical.specs.declared.Answer.TheVariants.{ByWidth}
use Rattle.numerical.specs.declared.Outcome.{Outcome}
use Rattle.numerical.specs.declared.Sample.{Sample}
use Rattle.simple_convergency.specs.Stop.{turns_of}
use Rattle.simple_convergency.specs.declared.StopRule.{StopRule}
use Rattle.searching.specs.Programs.{found, converged, flat, Prog, done, Turned, next, stops, answers, refuses, by_value, value_at, offered, steps_to, searches, answer_of}
use Rattle.secant.specs.declared.Secant.{Secant}

-- ---- the opening: "Found is tested on the first point before the second is evaluated"

unfoldable pub second_at : StopRule → Sample → Sample → Prog (Turned Secant)
second_at stop p q =
    stops stop (found q)
    (by_value q)
    (done (next (record { first = p; second = q })))

unfoldable pub first_at : StopRule → Float → Sample → Prog (Turned Secant)
first_at stop second p =
    stops stop (found p)
    (by_value p)
    (value_at second (second_at stop p))

unfoldable pub opening : StopRule → Float → Float → Prog (Turned Secant)
opening stop first second = value_at first (first_at stop second)

-- ---- a step

-- x2 - y2 * (x2 - x1) / (y2 - y1)
unfoldable pub candidate_of : Secant → Float
candidate_of s = chord_of s.first s.second

-- the candidate was evaluated: found, or the two last points go on
unfoldable pub arrived : StopRule → Secant → Sample → Prog (Turned Secant)
arrived stop s p =
    stops stop (found p)
    (by_value p)
    (steps_to (record { first = s.second; second = p }))

-- "converged (x, x2) gives x unevaluated by width with that pair; evaluate; found"
unfoldable pub landed : StopRule → Secant → Float → Prog (Turned Secant)
landed stop s x =
    stops stop (converged x s.second.x)
    (answers (ByWidth x x s.second.x))
    (value_at x (arrived stop s))

-- "Each step: 7 if |y1 - y2| < the value tolerance; candidate x; 9"
unfoldable pub turn_from : StopRule → Secant → Prog (Turned Secant)
turn_from stop s =
    stops stop (flat (sub binary64 s.first.y s.second.y))
    (refuses 7)
    (offered (candidate_of s) (landed stop s))

-- ---- the search

unfoldable pub secant_program : StopRule → Float → Float → Prog Answer
secant_program stop first second = searches (opening stop first second) (λ r. turns_of stop) (turn_from stop)

unfoldable pub secant : List Float → StopRule → Float → Float → Outcome
secant a stop first second = answer_of a (secant_program stop first second)
