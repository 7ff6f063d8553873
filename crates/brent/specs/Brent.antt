-- Brent's method, step by step as brent.rs has it, but that a step evaluates the new point alone. Definitions only.
use Rattle.std.specs.Prelude.{Bool, true, false, cond, Float, List}
use Rattle.std.specs.Float.{binary64}
use Rattle.std.specs.Float.Ieee.{of_bits, add, sub, mul, div, lt, le, ne}
use Rattle.numerical.specs.Chords.{chord_of}
use Rattle.numerical.specs.declared.Answer.{Answer}
use Rattle.numerical.specs.declared.Answer.TheVariants.{ByWidth}
use Rattle.numerical.specs.declared.Interval.{Interval}
use Rattle.numerical.specs.declared.Outcome.{Outcome}
use Rattle.numerical.specs.declared.Progress.{Progress}
use Rattle.numerical.specs.declared.Sample.{Sample}
use Rattle.simple_convergency.specs.Stop.{converged_at, turns_of}
use Rattle.simple_convergency.specs.declared.StopRule.{StopRule}
use Rattle.doubles.specs.Doubles.{above, below, absolute, opposite_sign}
use Rattle.numerical.specs.Middle.{two}
use Rattle.numerical.specs.Tallies.{ruled_of}
use Rattle.searching.specs.Programs.{found, converged, ruled, Prog, log, Turned, stops, answers, by_value, value_at, offered, pulled_into, differ, bracketed, narrows_to, searches, answer_of}
use Rattle.searching.specs.declared.Decided.{Decided}
use Rattle.brent.specs.declared.Arranged.{Arranged}
use Rattle.brent.specs.declared.Brent.{Brent}

-- 3 and 4
abbrev pub three : Float
three = of_bits binary64 0x4008_0000_0000_0000

abbrev pub four : Float
four = of_bits binary64 0x4010_0000_0000_0000

-- "`arrange` puts the larger size first; on a tie the second argument comes first"
unfoldable pub arrange : Sample → Sample → Arranged
arrange p q =
    cond (lt (absolute q.y) (absolute p.y))
    (record { a = p; b = q })
    (record { a = q; b = p })

abbrev pub pair_of : Brent → Interval
pair_of s = record { begin = s.a; end = s.b }

-- ---- the opening: "Both ends are evaluated, then 6"

-- "c is the earlier b, or a before any step"
unfoldable pub start_of : Arranged → Brent
start_of r = record { a = r.a; b = r.b; c = r.a; d = r.a.x; flag = true }

unfoldable pub opened : StopRule → Arranged → Prog (Turned Brent)
opened stop r = bracketed stop r.a r.b (start_of r)

unfoldable pub second_at : StopRule → Sample → Sample → Prog (Turned Brent)
second_at stop p q = opened stop (arrange p q)

unfoldable pub first_at : StopRule → Float → Sample → Prog (Turned Brent)
first_at stop b p = value_at b (second_at stop p)

unfoldable pub opening : StopRule → Float → Float → Prog (Turned Brent)
opening stop a b = value_at a (first_at stop b)

-- ---- the candidate

-- x * u * v / ((y - u) * (y - v)): a term of the inverse quadratic through three points
abbrev pub term_of : Float → Float → Float → Float → Float
term_of x y u v = div binary64 (mul binary64 (mul binary64 x u) v) (mul binary64 (sub binary64 y u) (sub binary64 y v))

-- a * yb * yc / ((ya - yb) * (ya - yc)) + b * ya * yc / ((yb - ya) * (yb - yc)) + c * ya * yb / ((yc - ya) * (yc - yb))
unfoldable pub inverse_quadratic : Brent → Float
inverse_quadratic s =
    add binary64
    (add binary64 (term_of s.a.x s.a.y s.b.y s.c.y) (term_of s.b.x s.b.y s.a.y s.c.y))
    (term_of s.c.x s.c.y s.a.y s.b.y)

-- b - yb * (b - a) / (yb - ya)
unfoldable pub chord : Brent → Float
chord s = chord_of s.a s.b

-- (ya != yc) && (yb != yc)
unfoldable pub three_values : Brent → Bool
three_values s = cond (ne s.a.y s.c.y) (ne s.b.y s.c.y) false

unfoldable pub guess_of : Brent → Float
guess_of s = cond (three_values s) (inverse_quadratic s) (chord s)

-- (s - b) * (s - (3 * a + b) / 4) > 0
unfoldable pub beyond_quarter : Brent → Float → Bool
beyond_quarter s x =
    above
    (mul binary64 (sub binary64 x s.b.x)
    (sub binary64 x (div binary64 (add binary64 (mul binary64 three s.a.x) s.b.x) four)))

-- |s - b| >= |p - q| / 2, with b and c for p and q after a bisection, c and d otherwise
unfoldable pub too_slow : Brent → Float → Float → Float → Bool
too_slow s p q x = le (div binary64 (absolute (sub binary64 p q)) two) (absolute (sub binary64 x s.b.x))

-- conditions 2 and 4, or 3 and 5, on the two points that the flag picks
unfoldable pub stalls : StopRule → Brent → Float → Float → Float → Bool
stalls stop s p q x = cond (too_slow s p q x) true (converged_at stop p q)

-- "The five conditions and their products stay as written"
unfoldable pub bisects : StopRule → Brent → Float → Bool
bisects stop s x =
    cond (beyond_quarter s x) true
    (cond s.flag (stalls stop s s.b.x s.c.x x) (stalls stop s s.c.x s.d x))

-- the s finally used
unfoldable pub used_of : Bool → Brent → Float → Float
used_of bisecting s x = cond bisecting (div binary64 (add binary64 s.a.x s.b.x) two) x

-- ---- a step

-- d = c, c = b, and the pair as it was arranged
unfoldable pub next_of : Brent → Bool → Arranged → Brent
next_of s flag r = record { a = r.a; b = r.b; c = s.b; d = s.c.x; flag = flag }

-- the step is completed with this pair
abbrev pub completes : Brent → Bool → Arranged → Prog (Turned Brent)
completes s flag r = narrows_to pair_of (next_of s flag r)

-- rule 1: whether the Rust's test, ya * ys < 0, says otherwise
unfoldable pub step_departs : Sample → Sample → Bool
step_departs a p = differ (opposite_sign a.y p.y) (below (mul binary64 a.y p.y))

-- the test of a step, with what the run has done after it
abbrev pub opposite_by : Sample → Sample → Progress → Decided
opposite_by a p w = record { decision = opposite_sign a.y p.y; progress = ruled_of 1 (step_departs a p) w }

-- "Test whether ya and ys are of opposite signs": then a is kept, and otherwise b
abbrev pub keeps_a : Interval → Sample → Bool
keeps_a i p = opposite_sign i.begin.y p.y

-- "If opposite, the next pair is arrange(a, s), otherwise arrange(s, b)"
unfoldable pub pair_after : Interval → Sample → Arranged
pair_after i p = cond (keeps_a i p) (arrange i.begin p) (arrange p i.end)

-- "only the new point is evaluated": the kept end comes with its value
unfoldable pub arrived : Brent → Bool → Sample → Prog (Turned Brent)
arrived s flag p =
    log (ruled 1 (step_departs s.a p))
    (completes s flag (pair_after (pair_of s) p))

unfoldable pub landed : Brent → Bool → Float → Prog (Turned Brent)
landed s flag x = value_at x (arrived s flag)

unfoldable pub pulled_in : Brent → Bool → Float → Prog (Turned Brent)
pulled_in s flag x = pulled_into s.a.x s.b.x x (landed s flag)

-- "Only the s finally used is refused 9 or pulled"; the flag is set before
unfoldable pub step_with : Brent → Bool → Float → Prog (Turned Brent)
step_with s bisecting guess = offered (used_of bisecting s guess) (pulled_in s bisecting)

unfoldable pub step_from : StopRule → Brent → Float → Prog (Turned Brent)
step_from stop s guess = step_with s (bisects stop s guess) guess

-- "The last gives c by width with pair (a, b)"
abbrev pub by_width : Brent → Answer
by_width s = ByWidth s.c.x s.a.x s.b.x

-- "Each round tests found at a, found at b, converged (a, b)"
unfoldable pub turn_from : StopRule → Brent → Prog (Turned Brent)
turn_from stop s =
    stops stop (found s.a)
    (by_value s.a)
    (stops stop (found s.b)
    (by_value s.b)
    (stops stop (converged s.a.x s.b.x)
    (answers (by_width s))
    (step_from stop s (guess_of s))))

-- ---- the search

unfoldable pub brent_program : StopRule → Float → Float → Prog Answer
brent_program stop a b = searches (opening stop a b) (λ r. turns_of stop) (turn_from stop)

unfoldable pub brent : List Float → StopRule → Float → Float → Outcome
brent cs stop a b = answer_of cs (brent_program stop a b)
