use Rattle.regula_falsi.specs.RegulaFalsi.{second_at}
use Rattle.searching.proofs.StepLaws.{steps}
use Rattle.regula_falsi.proofs.second_at.Goals as goal

pub returns-then-found : goal.returns-then-found
unfolding second_at
returns-then-found c = λ cs. search steps
