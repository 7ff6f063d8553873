-- Events that leave pairs, steps and the sign test as they are. Definitions only.
use Rattle.std.specs.Prelude.{Bool, ◌≡◌}
use Rattle.std.proofs.Math.Bool.{true, false}
use mathlib.Core.List.{List}
use Rattle.searching.specs.Programs.{found, converged, flat, alike, tested, candidate, ruled, paired, stepped, Event, asked, asked_both, noted}
use Rattle.searching.specs.Histories.{steps_in}
use Rattle.searching.specs.Brackets.{pairs_in}
use Rattle.searching.specs.Events.{signs_missed}

-- an event that is no pair, no step and no sign test
abbrev pub plain : Event → Bool
plain (asked x e) = true
plain (asked_both x e) = true
plain (noted (tested (found p) held)) = true
plain (noted (tested (converged p q) held)) = true
plain (noted (tested (flat y) held)) = true
plain (noted (tested (alike p q) held)) = false
plain (noted (candidate x)) = true
plain (noted (ruled rule departed)) = true
plain (noted (paired i)) = false
plain (noted stepped) = false

-- it leaves pairs, steps and the sign test as they are
pub record Same (h h2 : List Event) : Type 0 where
  pub pairs : pairs_in h2 ≡ pairs_in h
  pub steps : steps_in h2 ≡ steps_in h
  pub signs : signs_missed h2 ≡ signs_missed h
