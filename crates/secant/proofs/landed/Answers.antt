use Rattle.searching.proofs.StepLaws.{steps}
use Rattle.secant.specs.Secant.{landed}
use Rattle.secant.proofs.landed.Goals as goal

pub returns-then-converged : goal.returns-then-converged
unfolding landed
returns-then-converged c = search steps
