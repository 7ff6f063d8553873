use Rattle.searching.proofs.StepLaws.{steps}
use Rattle.secant.specs.Secant.{arrived}
use Rattle.secant.proofs.arrived.Goals as goal

pub returns : goal.returns
unfolding arrived
returns c = λ cs. search steps
