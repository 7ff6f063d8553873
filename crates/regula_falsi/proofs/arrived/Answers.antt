use Rattle.regula_falsi.specs.RegulaFalsi.{arrived}
use Rattle.searching.proofs.StepLaws.{steps}
use Rattle.regula_falsi.proofs.arrived.Goals as goal

pub returns-then-found : goal.returns-then-found
unfolding arrived
returns-then-found c = λ cs. search steps
