-- What each event of an Illinois history is, given those before it, and what an answer by width gives. Definitions only.
use Rattle.std.specs.Prelude.{List, ◌⊎◌, Float}
use Rattle.numerical.specs.declared.Sample.{Sample}
use Rattle.searching.specs.Programs.{found, converged, flat, alike, tested, candidate, ruled, paired, stepped, Event, asked, asked_both, noted}
use Rattle.searching.specs.Events.{Sampled, Answered, Replaced, AfterPair, AtFirst, AtSecond, lower_of, upper_of, OfStarts, PointsOf, PulledNow, Rules, Paired}

-- evaluated are the starts, smaller first, and then each candidate, pulled into the newest pair, once, before its step; its sample replaces one end; found is tested of the sample just evaluated
abbrev pub Follows : Float → Float → Event → List Event → Type 0
Follows from to (asked x e) h = AtFirst (lower_of from to) x h ⊎ AtSecond (lower_of from to) (upper_of from to) x h ⊎ PulledNow x h
Follows from to (asked_both x e) h = ⊥
Follows from to (noted (tested (found p) held)) h = Sampled p h
Follows from to (noted (tested (converged p q) held)) h = PointsOf p q h
Follows from to (noted (tested (flat y) held)) h = ⊥
Follows from to (noted (tested (alike p q) held)) h = OfStarts p q h
Follows from to (noted (candidate x)) h = Paired h
Follows from to (noted (ruled rule departed)) h = Rules rule departed h
Follows from to (noted (paired i)) h = OfStarts i.begin i.end h ⊎ ((p : Sample) × Answered p h × Replaced p i h)
Follows from to (noted stepped) h = AfterPair h

-- "giving x unevaluated by width with pair (x1, x2)": the newest candidate, pulled into the newest pair, and that pair's points
abbrev pub Gives : Float → Float → Float → List Event → Type 0
Gives root p q h = PointsOf p q h × PulledNow root h
