use Rattle.regula_falsi.specs.RegulaFalsi.{pulled_in}
use Rattle.searching.proofs.StepLaws.{steps}
use Rattle.regula_falsi.proofs.pulled_in.Goals as goal

pub returns : goal.returns
unfolding pulled_in
returns c = search steps
