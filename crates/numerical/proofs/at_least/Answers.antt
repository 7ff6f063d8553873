use Rattle.numerical.proofs.Choices.{choices}
use Rattle.numerical.specs.Middle.{at_least}
use Rattle.numerical.proofs.at_least.Goals as goal

pub returns-then-shift-width : goal.returns-then-shift-width
unfolding at_least
returns-then-shift-width c = search choices

pub returns-else-shift-width : goal.returns-else-shift-width
unfolding at_least
returns-else-shift-width c = search choices
