use Rattle.brent.proofs.BrentLaws.{by_kept_a, by_kept_b}
use Rattle.brent.proofs.BrentRule.{opposite_decision, by_opposite}
use Rattle.brent.specs.Brent.{arrived}
use Rattle.brent.proofs.arrived.Goals as goal

pub returns-then-apart : goal.returns-then-apart
unfolding arrived
returns-then-apart c = λ cs. search (by_opposite, opposite_decision, by_kept_a, c.step_to.ensures)

pub returns-else-apart : goal.returns-else-apart
unfolding arrived
returns-else-apart c = λ cs. search (by_opposite, opposite_decision, by_kept_b, c.step_to-else-apart.ensures)
