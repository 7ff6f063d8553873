-- `numerical::Interval::middle` meets its contract. Assumes nothing.
use mathlib.Core.Path.{◌≡◌}
use lib.Ieee.{Float, binary64, add}
use Rattle.numerical.proofs.Choices.{choices}
use Rattle.numerical.specs.Middle.{at_least, at_most, middle_of}
use Rattle.numerical.proofs.Interval.middle.Goals as goal

-- the shift as it was held
by_held : (b w s : Float) {l m : Float} → l ≡ at_least w s → m ≡ at_most w l → add binary64 b m ≡ add binary64 b (at_most w (at_least w s))
by_held b w s e k = cc

pub returns-then-crosses : goal.returns-then-crosses
unfolding middle_of
returns-then-crosses c = search (choices, by_held)

pub returns-else-crosses : goal.returns-else-crosses
unfolding middle_of
returns-else-crosses c = search choices
