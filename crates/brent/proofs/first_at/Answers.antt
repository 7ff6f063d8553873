use Rattle.searching.proofs.StepLaws.{steps}
use Rattle.brent.specs.Brent.{first_at}
use Rattle.brent.proofs.first_at.Goals as goal

pub returns : goal.returns
unfolding first_at
returns c = λ stop. search (steps, c.second_at.ensures)
