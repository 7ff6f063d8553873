use Rattle.newton_raphson.specs.NewtonRaphson.{nudged_to, nudge}
use Rattle.searching.proofs.StepLaws.{steps}
use Rattle.newton_raphson.proofs.nudge.Goals as goal

pub returns-then-is_finite : goal.returns-then-is_finite
unfolding nudge nudged_to
returns-then-is_finite c = λ cs. search steps
