use Rattle.newton_raphson.specs.NewtonRaphson.{landed}
use Rattle.searching.proofs.StepLaws.{steps}
use Rattle.newton_raphson.proofs.landed.Goals as goal

pub returns-then-converged : goal.returns-then-converged
unfolding landed
returns-then-converged c = λ cs. search steps
