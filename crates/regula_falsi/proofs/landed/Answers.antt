use Rattle.regula_falsi.specs.RegulaFalsi.{landed}
use Rattle.searching.proofs.StepLaws.{steps}
use Rattle.regula_falsi.proofs.landed.Goals as goal

pub returns-then-converged : goal.returns-then-converged
unfolding landed
returns-then-converged c = search steps
