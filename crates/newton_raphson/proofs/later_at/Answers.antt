use Rattle.searching.proofs.StepLaws.{steps}
use Rattle.newton_raphson.specs.NewtonRaphson.{later_at}
use Rattle.newton_raphson.proofs.later_at.Goals as goal

pub returns-then-found : goal.returns-then-found
unfolding later_at
returns-then-found c = λ cs. search steps

pub returns-then-flat : goal.returns-then-flat
unfolding later_at
returns-then-flat c = λ cs. search steps

pub returns : goal.returns
unfolding later_at
returns c = λ cs. search (steps, c.onward.ensures)
