use Rattle.searching.proofs.StepLaws.{by_rising}
use Rattle.regula_falsi.specs.RegulaFalsi.{opening}
use Rattle.regula_falsi.proofs.opening.Goals as goal

pub returns : goal.returns
unfolding opening
returns c = search by_rising
