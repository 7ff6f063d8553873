use Rattle.numerical.specs.Middle.{at_most}
use Rattle.numerical.proofs.at_most.Goals as goal

pub returns-then-shift-width : goal.returns-then-shift-width
unfolding at_most
returns-then-shift-width c = rw c.if-shift-width.true

pub returns-else-shift-width : goal.returns-else-shift-width
unfolding at_most
returns-else-shift-width c = rw c.if-shift-width.false
