-- What each event of a polynomial search's history is, given those before it, and what an answer by width gives. Definitions only.
use Rattle.std.specs.Prelude.{true, false, cond, Some, List, [], ◌∷◌, ◌⊎◌, ◌≡◌, Float}
use Rattle.std.specs.Float.Ieee.{lt}
use Rattle.doubles.specs.Doubles.{absolute, pulled}
use Rattle.numerical.specs.Middle.{middle_of}
use Rattle.numerical.specs.declared.Interval.{Interval}
use Rattle.numerical.specs.declared.Sample.{Sample}
use Rattle.polynom.specs.declared.ValueAndDerivative.{ValueAndDerivative}
use Rattle.searching.specs.Programs.{found, converged, flat, alike, tested, candidate, ruled, paired, stepped, Event, asked, asked_both, noted}
use Rattle.searching.specs.Events.{evaluated_since, Newest, Tried, AnsweredBoth, Replaced, AfterPair, AtFirst, AtSecond, lower_of, upper_of, OfStarts, EndOf, PointsOf, PulledNow, Rules}
use Rattle.polynom.specs.Polynom.{newton_point}
use Rattle.polynom_search.specs.PolynomSearch.{usable}

-- the Newton point from the value and derivative just worked out, where the derivative is nonzero and it lies in the newest pair
abbrev pub NewtonNow : Float → List Event → Type 0
NewtonNow x h = (i : Interval) × (v : ValueAndDerivative) × Newest i h × AnsweredBoth v h × (usable i v ≡ true) × (x ≡ newton_point v)

-- the middle of the newest pair
abbrev pub MiddleNow : Float → List Event → Type 0
MiddleNow x h = (i : Interval) × Newest i h × (x ≡ middle_of i)

-- v, and then q at the Newton point, were worked out since the newest candidate
abbrev pub NewtonAnswered : ValueAndDerivative → Sample → List Event → Type 0
NewtonAnswered v q h = (x : Float) × (z : Float) × (evaluated_since h ≡ asked z (Some q) ∷ asked_both x (Some v) ∷ [])

-- p is the middle's sample where no Newton point was usable, and otherwise the one of the two that is smaller in size, the middle's on a tie
abbrev pub ChosenNow : Sample → List Event → Type 0
ChosenNow p h =
    (v : ValueAndDerivative) ×
    ((AnsweredBoth v h × ((i : Interval) × Newest i h × (usable i v ≡ false)) × (p ≡ v.value)) ⊎
    ((q : Sample) × NewtonAnswered v q h × (p ≡ cond (lt (absolute q.y) (absolute v.value.y)) q v.value)))

-- evaluated are the starts, smaller first, and then each middle, pulled into the newest pair, with its derivative, and the Newton point from there, once each, before the step; the chosen sample replaces one end; found and converged are tested of the newest pair
abbrev pub Follows : Float → Float → Event → List Event → Type 0
Follows from to (asked x e) h = AtFirst (lower_of from to) x h ⊎ AtSecond (lower_of from to) (upper_of from to) x h ⊎ NewtonNow x h
Follows from to (asked_both x e) h = PulledNow x h
Follows from to (noted (tested (found p) held)) h = EndOf p h
Follows from to (noted (tested (converged p q) held)) h = PointsOf p q h
Follows from to (noted (tested (flat y) held)) h = ⊥
Follows from to (noted (tested (alike p q) held)) h = OfStarts p q h
Follows from to (noted (candidate x)) h = MiddleNow x h × Tried h
Follows from to (noted (ruled rule departed)) h = Rules rule departed h
Follows from to (noted (paired i)) h = OfStarts i.begin i.end h ⊎ ((p : Sample) × ChosenNow p h × Replaced p i h)
Follows from to (noted stepped) h = AfterPair h

-- "converged, which gives `middle` by width with pair (begin, end)": the newest pair's middle, pulled into it
abbrev pub Gives : Float → Float → Float → List Event → Type 0
Gives root p q h = (i : Interval) × Newest i h × (p ≡ i.begin.x) × (q ≡ i.end.x) × (root ≡ pulled p q (middle_of i))
