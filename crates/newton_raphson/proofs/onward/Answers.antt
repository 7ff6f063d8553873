use Rattle.newton_raphson.specs.NewtonRaphson.{onward}
use Rattle.searching.proofs.StepLaws.{steps}
use Rattle.newton_raphson.proofs.onward.Goals as goal

pub returns-then-is_finite : goal.returns-then-is_finite
unfolding onward
returns-then-is_finite c = λ cs. search (steps, c.landed.ensures)
