-- What each event of a Newton history is, given those before it, and what an answer by width gives. Definitions only.
use Rattle.std.specs.Prelude.{List, [], ◌⊎◌, ◌≡◌, Float}
use Rattle.std.specs.Float.{binary64}
use Rattle.std.specs.Float.Ieee.{add}
use Rattle.polynom.specs.Polynom.{one}
use Rattle.polynom.specs.declared.ValueAndDerivative.{ValueAndDerivative}
use Rattle.searching.specs.Programs.{found, converged, flat, alike, tested, candidate, ruled, paired, stepped, Event, asked, asked_both, noted}
use Rattle.searching.specs.Events.{candidates_in, Candidate, Untried, SampledBoth, AnsweredBoth, AtFirst}
use Rattle.polynom.specs.Polynom.{newton_point}

-- evaluated, with its derivative, are the start and then each candidate, once, in the pass after its step, which is the Newton point or, before any other candidate, the nudged start; every test is of what was just evaluated
abbrev pub Follows : Float → Event → List Event → Type 0
Follows start (asked x e) h = ⊥
Follows start (asked_both x e) h = AtFirst start x h ⊎ Untried x h
Follows start (noted (tested (found p) held)) h = (v : ValueAndDerivative) × SampledBoth v h × (p ≡ v.value)
Follows start (noted (tested (converged p q) held)) h = (v : ValueAndDerivative) × SampledBoth v h × (p ≡ v.value.x) × Candidate q h
Follows start (noted (tested (flat y) held)) h = (v : ValueAndDerivative) × SampledBoth v h × (y ≡ v.derivative)
Follows start (noted (tested (alike p q) held)) h = ⊥
Follows start (noted (candidate x)) h = (v : ValueAndDerivative) × AnsweredBoth v h × ((x ≡ newton_point v) ⊎ (candidates_in h ≡ []) × (x ≡ add binary64 v.value.x one))
Follows start (noted (ruled rule departed)) h = ⊥
Follows start (noted (paired i)) h = ⊥
Follows start (noted stepped) h = (x : Float) × Untried x h

-- "converged (x, x1) gives x1 by width with that pair": the newest candidate, and the last point evaluated before it
abbrev pub Gives : Float → Float → Float → List Event → Type 0
Gives root p q h = (root ≡ q) × Candidate q h × ((v : ValueAndDerivative) × SampledBoth v h × (p ≡ v.value.x))
