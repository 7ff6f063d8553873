-- What each event of a secant history is, given those before it, and what an answer by width gives. Definitions only.
use Rattle.std.specs.Prelude.{List, ◌⊎◌, ◌≡◌, Float}
use Rattle.std.specs.Float.{binary64}
use Rattle.std.specs.Float.Ieee.{sub}
use Rattle.numerical.specs.declared.Sample.{Sample}
use Rattle.searching.specs.Programs.{found, converged, flat, alike, tested, candidate, ruled, paired, stepped, Event, asked, asked_both, noted}
use Rattle.searching.specs.Events.{Candidate, Untried, Tried, Sampled, SampledTwo, Answered, LastPoint, AtFirst, AtSecond}
use Rattle.secant.specs.Secant.{candidate_of}

-- evaluated are the starts as given, and then each candidate, once, before its step; found is tested of the sample just evaluated, flat of the difference of the last two values
abbrev pub Follows : Float → Float → Event → List Event → Type 0
Follows first second (asked x e) h = AtFirst first x h ⊎ AtSecond first second x h ⊎ Untried x h
Follows first second (asked_both x e) h = ⊥
Follows first second (noted (tested (found p) held)) h = Sampled p h
Follows first second (noted (tested (converged p q) held)) h = Candidate p h × LastPoint q h
Follows first second (noted (tested (flat y) held)) h = (p : Sample) × (q : Sample) × SampledTwo p q h × (y ≡ sub binary64 p.y q.y)
Follows first second (noted (tested (alike p q) held)) h = ⊥
Follows first second (noted (candidate x)) h = (p : Sample) × (q : Sample) × SampledTwo p q h × Tried h × (x ≡ candidate_of (record { first = p; second = q }))
Follows first second (noted (ruled rule departed)) h = ⊥
Follows first second (noted (paired i)) h = ⊥
Follows first second (noted stepped) h = (p : Sample) × Answered p h

-- "converged (x, x2) gives x unevaluated by width with that pair": the newest candidate, and the last point evaluated
abbrev pub Gives : Float → Float → Float → List Event → Type 0
Gives root p q h = (root ≡ p) × Candidate p h × LastPoint q h
