-- What each event of a Brent history is, given those before it, and what an answer by width gives. Definitions only.
use Rattle.std.specs.Prelude.{cond, List, [], ◌∷◌, ◌⊎◌, ◌≡◌, Float}
use Rattle.doubles.specs.Doubles.{opposite_sign}
use Rattle.numerical.specs.declared.Interval.{Interval}
use Rattle.numerical.specs.declared.Sample.{Sample}
use Rattle.searching.specs.Brackets.{pairs_in}
use Rattle.searching.specs.Programs.{found, converged, flat, alike, tested, candidate, ruled, paired, stepped, Event, asked, asked_both, noted}
use Rattle.searching.specs.Events.{Newest, Answered, AfterPair, AtFirst, AtSecond, OfStarts, EndOf, PointsOf, PulledNow, Rules, Paired}

-- the end of a pair (a, b) that is kept beside the sample p, with its value: a where the signs are opposite, and b otherwise
abbrev pub kept_beside : Interval → Sample → Sample
kept_beside j p = cond (opposite_sign j.begin.y p.y) j.begin j.end

-- the sample just evaluated and the kept end of the newest pair, in either order
abbrev pub Stepped : Interval → List Event → Type 0
Stepped i h =
    (j : Interval) × (p : Sample) × Newest j h × Answered p h
    × ((i ≡ record { begin = p; end = kept_beside j p }) ⊎ (i ≡ record { begin = kept_beside j p; end = p }))

-- evaluated are the starts as given, and then each candidate, pulled into the newest pair, once and before the step, and nothing else; found and converged are tested of the newest pair
abbrev pub Follows : Float → Float → Event → List Event → Type 0
Follows from to (asked x e) h = AtFirst from x h ⊎ AtSecond from to x h ⊎ PulledNow x h
Follows from to (asked_both x e) h = ⊥
Follows from to (noted (tested (found p) held)) h = EndOf p h
Follows from to (noted (tested (converged p q) held)) h = PointsOf p q h
Follows from to (noted (tested (flat y) held)) h = ⊥
Follows from to (noted (tested (alike p q) held)) h = OfStarts p q h
Follows from to (noted (candidate x)) h = Paired h
Follows from to (noted (ruled rule departed)) h = Rules rule departed h
Follows from to (noted (paired i)) h = OfStarts i.begin i.end h ⊎ Stepped i h
Follows from to (noted stepped) h = AfterPair h

-- "c is the earlier b, or a before any step", over the pairs (a, b), newest first
abbrev pub IsC : Float → List Interval → Type 0
IsC c [] = ⊥
IsC c (i ∷ []) = c ≡ i.begin.x
IsC c (i ∷ j ∷ older) = c ≡ j.end.x

-- "The last gives c by width with pair (a, b)"
abbrev pub Gives : Float → Float → Float → List Event → Type 0
Gives root p q h = PointsOf p q h × IsC root (pairs_in h)
