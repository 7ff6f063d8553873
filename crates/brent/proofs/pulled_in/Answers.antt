use Rattle.brent.specs.Brent.{pulled_in}
use Rattle.searching.proofs.StepLaws.{steps}
use Rattle.brent.proofs.pulled_in.Goals as goal

pub returns : goal.returns
unfolding pulled_in
returns c = search steps
