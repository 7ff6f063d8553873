use Rattle.searching.proofs.StepLaws.{steps}
use Rattle.polynom_search.proofs.TurnLaws.{by_newton}
use Rattle.polynom_search.proofs.at_middle.Goals as goal

pub returns-in_default : goal.returns-in_default
returns-in_default c = search (by_newton, steps)
