-- The words of the promises: a call's program and history, which calls 1 to 5 refuse, and what a method's events are. Definitions only.
use Rattle.std.specs.Prelude.{ℕ, ◌≤◌, ◌<◌, max, true, false, cond, ◌⊎◌, ◌≡◌, T, length, Float}
use mathlib.Core.List.{List, [], ◌∷◌, Memᴰ}
use Rattle.std.specs.Float.{binary64}
use Rattle.std.specs.Float.Ieee.{fits, lt, sub}
use Rattle.std.specs.Float.Ieee.Scale.{finite}
use Rattle.doubles.specs.Doubles.{absolute, order_of}
use Rattle.doubles.specs.Pairs.{BetweenZ}
use Rattle.numerical.specs.declared.Answer.{Answer}
use Rattle.numerical.specs.declared.Interval.{Interval}
use Rattle.numerical.specs.declared.Sample.{Sample}
use Rattle.simple_convergency.specs.Stop.{least_tolerance, greatest_limit, most_coefficients, flat_at, turns_of}
use Rattle.simple_convergency.specs.declared.StopRule.{StopRule}
use Rattle.polynom.specs.Polynom.{value_and_derivative, evaluated, evaluated_both}
use Rattle.polynom.specs.declared.ValueAndDerivative.{ValueAndDerivative}
use Rattle.searching.specs.Programs.{Prog, Event, asked, asked_both, noted, oracle}
use Rattle.searching.specs.Events.{SampledBoth, SampledTwo}
use Rattle.searching.specs.Histories.{history}
use Rattle.brent.specs.Brent.{brent_program}
use Rattle.regula_falsi.specs.RegulaFalsi.{illinois_program}
use Rattle.secant.specs.Secant.{secant_program}
use Rattle.newton_raphson.specs.NewtonRaphson.{newton_program}
use Rattle.polynom_search.specs.PolynomSearch.{polynom_program}
use Rattle.brent.specs.BrentEvents as brent
use Rattle.regula_falsi.specs.RegulaFalsiEvents as illinois
use Rattle.secant.specs.SecantEvents as secant
use Rattle.newton_raphson.specs.NewtonRaphsonEvents as newton
use Rattle.polynom_search.specs.PolynomSearchEvents as polynom
use Rattle.simple_convergency.specs.declared.Tolerances.{Tolerances}
use Rattle.roots.specs.Calls.{starts_of}
use Rattle.roots.specs.declared.Method.{Method}
use Rattle.roots.specs.declared.Method.TheVariants.{Brent, RegulaFalsi, Secant, NewtonRaphson, Polynom}
use Rattle.promises.specs.Counts.{rule_of}

-- a call's program, and its history, newest event first
abbrev pub program_of : StopRule → Method → Prog Answer
program_of stop (Brent from to) = brent_program stop from to
program_of stop (RegulaFalsi from to) = illinois_program stop from to
program_of stop (Secant first second) = secant_program stop first second
program_of stop (NewtonRaphson start) = newton_program stop start
program_of stop (Polynom from to) = polynom_program stop from to

abbrev pub history_of : List Float → Method → Tolerances → ℕ → List Event
history_of a m tolerances limit = history (oracle a) (program_of (rule_of tolerances limit) m)

-- ---- refusals 1 to 5, in document 01's words

-- 1: "coefficient count is 0 or above 16"
abbrev pub BadCount : List Float → Type 0
BadCount a = (length a ≡ 0) ⊎ (most_coefficients < length a)

-- 2 and 3: some coefficient, or some start, isn't finite
abbrev pub SomeNotFinite : List Float → Type 0
SomeNotFinite l = (x : Float) × Memᴰ x l × (finite x ≡ false)

-- a tolerance that "isn't finite or is below 2^-300"
abbrev pub BadTolerance : Float → Type 0
BadTolerance x = (finite x ≡ false) ⊎ (lt x least_tolerance ≡ true)

-- "4 if either is bad"
abbrev pub EitherBad : Tolerances → Type 0
EitherBad tolerances = BadTolerance tolerances.value ⊎ BadTolerance tolerances.point

-- "1 to 5 are checked in that order": the number that a call is refused with before any evaluation
pub data Early (a : List Float) (m : Method) (tolerances : Tolerances) (limit : ℕ) : ℕ → Type 0 where
  one : BadCount a → Early a m tolerances limit 1
  two : ¬ BadCount a → SomeNotFinite a → Early a m tolerances limit 2
  three : ¬ BadCount a → ¬ SomeNotFinite a → SomeNotFinite (starts_of m) → Early a m tolerances limit 3
  four : ¬ BadCount a → ¬ SomeNotFinite a → ¬ SomeNotFinite (starts_of m) → EitherBad tolerances → Early a m tolerances limit 4
  five : ¬ BadCount a → ¬ SomeNotFinite a → ¬ SomeNotFinite (starts_of m) → ¬ EitherBad tolerances → greatest_limit < limit → Early a m tolerances limit 5

-- a call that none of the five refuses
pub record Passes (a : List Float) (m : Method) (tolerances : Tolerances) (limit : ℕ) : Type 0 where
  pub good_count : ¬ BadCount a
  pub good_coefficients : ¬ SomeNotFinite a
  pub good_starts : ¬ SomeNotFinite (starts_of m)
  pub good_tolerances : ¬ EitherBad tolerances
  pub good_limit : ¬ (greatest_limit < limit)

-- the numbers given are doubles: values of the format, as every f64 is
abbrev pub Held : List Float → Type 0
Held [] = Unit {0}
Held (x ∷ rest) = T (fits binary64 x) × Held rest

-- the steps at which the limit is reached: the larger of 1 and limit, and for Newton from a flat start the larger of 2 and limit
abbrev pub most_steps : List Float → StopRule → Method → ℕ
most_steps a stop (Brent from to) = turns_of stop
most_steps a stop (RegulaFalsi from to) = turns_of stop
most_steps a stop (Secant first second) = turns_of stop
most_steps a stop (NewtonRaphson start) = cond (flat_at stop (value_and_derivative a start).derivative) (max 2 stop.limit) (max 1 stop.limit)
most_steps a stop (Polynom from to) = turns_of stop

-- ---- what a method's events are, and what its answers give

-- what each event of its history is, given those before it
abbrev pub follows_of : Method → Event → List Event → Type 0
follows_of (Brent from to) = brent.Follows from to
follows_of (RegulaFalsi from to) = illinois.Follows from to
follows_of (Secant first second) = secant.Follows first second
follows_of (NewtonRaphson start) = newton.Follows start
follows_of (Polynom from to) = polynom.Follows from to

-- which point the root by width is, and which points stand beside it
abbrev pub gives_of : Method → Float → Float → Float → List Event → Type 0
gives_of (Brent from to) = brent.Gives
gives_of (RegulaFalsi from to) = illinois.Gives
gives_of (Secant first second) = secant.Gives
gives_of (NewtonRaphson start) = newton.Gives
gives_of (Polynom from to) = polynom.Gives

-- 7: secant's last two values are too close, or Newton's derivative at the last point evaluated is too small; the others have none
abbrev pub Flat : Tolerances → Method → List Event → Type 0
Flat tolerances (Brent from to) h = ⊥
Flat tolerances (RegulaFalsi from to) h = ⊥
Flat tolerances (Secant first second) h = (p : Sample) × (q : Sample) × SampledTwo p q h × (lt (absolute (sub binary64 p.y q.y)) tolerances.value ≡ true)
Flat tolerances (NewtonRaphson start) h = (v : ValueAndDerivative) × SampledBoth v h × (lt (absolute v.derivative) tolerances.value ≡ true)
Flat tolerances (Polynom from to) h = ⊥

-- the marks that a method can have
abbrev pub Marks : Method → ℕ → Type 0
Marks (Brent from to) mark = mark ≤ 2
Marks (RegulaFalsi from to) mark = (mark ≡ 0) ⊎ (mark ≡ 2)
Marks (Secant first second) mark = mark ≡ 0
Marks (NewtonRaphson start) mark = mark ≡ 0
Marks (Polynom from to) mark = mark ≤ 2

-- a bracketing method and its starts
abbrev pub Bracketed : Method → Float → Float → Type 0
Bracketed (Brent from to) u v = (from ≡ u) × (to ≡ v)
Bracketed (RegulaFalsi from to) u v = (from ≡ u) × (to ≡ v)
Bracketed (Secant first second) u v = ⊥
Bracketed (NewtonRaphson start) u v = ⊥
Bracketed (Polynom from to) u v = (from ≡ u) × (to ≡ v)

-- every evaluation of a history is the definition's: what was answered is what the evaluator gives at that point
abbrev pub Truthful : List Float → List Event → Type 0
Truthful a [] = Unit {0}
Truthful a (asked x e ∷ h) = (e ≡ evaluated a x) × Truthful a h
Truthful a (asked_both x e ∷ h) = (e ≡ evaluated_both a x) × Truthful a h
Truthful a (noted n ∷ h) = Truthful a h

-- a pair's points lie between x and y by the order number
abbrev pub PairBetween : Float → Float → Interval → Type 0
PairBetween x y i = BetweenZ (order_of x) (order_of y) (order_of i.begin.x) × BetweenZ (order_of x) (order_of y) (order_of i.end.x)

-- of the pairs of a history, newest first: each lies between the starts u and v, and within the pair before
abbrev pub NestedByOrder : Float → Float → List Interval → Type 0
NestedByOrder u v [] = Unit {0}
NestedByOrder u v (i ∷ []) = PairBetween u v i
NestedByOrder u v (j ∷ i ∷ older) = PairBetween u v j × PairBetween i.begin.x i.end.x j × NestedByOrder u v (i ∷ older)
