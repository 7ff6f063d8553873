use Rattle.searching.proofs.StepLaws.{steps}
use Rattle.brent.specs.Brent.{opening}
use Rattle.brent.proofs.opening.Goals as goal

pub returns : goal.returns
unfolding opening
returns c = λ stop. search (steps, c.first_at.ensures)
