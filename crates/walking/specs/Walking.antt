-- The smallest method: from a start by steps of 1 until a value is found. It shows the language of searches in use.
use Rattle.std.specs.Prelude.{List, Float}
use Rattle.std.specs.Float.{binary64}
use Rattle.std.specs.Float.Ieee.{add}
use Rattle.numerical.specs.declared.Outcome.{Outcome}
use Rattle.numerical.specs.declared.Sample.{Sample}
use Rattle.simple_convergency.specs.Stop.{turns_of}
use Rattle.simple_convergency.specs.declared.StopRule.{StopRule}
use Rattle.polynom.specs.Polynom.{one}
use Rattle.searching.specs.Programs.{found, Prog, done, Turned, next, stops, by_value, value_at, offered, steps_to, searches, answer_of}

-- the sample at hand is found, or the walk goes one further
unfoldable pub seen_at : StopRule → Sample → Prog (Turned Float)
seen_at stop p =
    stops stop (found p)
    (by_value p)
    (offered (add binary64 p.x one) steps_to)

unfoldable pub turn_from : StopRule → Float → Prog (Turned Float)
turn_from stop x = value_at x (seen_at stop)

abbrev pub opening : Float → Prog (Turned Float)
opening x = done (next x)

unfoldable pub walking : List Float → StopRule → Float → Outcome
walking a stop x = answer_of a (searches (opening x) (λ r. turns_of stop) (turn_from stop))
