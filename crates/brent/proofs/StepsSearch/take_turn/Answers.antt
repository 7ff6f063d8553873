use Rattle.brent.specs.Brent.{turn_from}
use Rattle.searching.proofs.StepLaws.{steps}
use Rattle.brent.proofs.StepsSearch.take_turn.Goals as goal

pub returns-then-converged : goal.returns-then-converged
unfolding turn_from
returns-then-converged c = search steps
