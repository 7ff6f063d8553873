use Rattle.searching.proofs.StepLaws.{steps}
use Rattle.secant.specs.Secant.{opening}
use Rattle.secant.proofs.opening.Goals as goal

pub returns-in_default : goal.returns-in_default
unfolding opening
returns-in_default c = search steps
