use Rattle.polynom_search.specs.PolynomSearch.{turn_from}
use Rattle.searching.proofs.StepLaws.{steps}
use Rattle.polynom_search.proofs.StepsSearch.take_turn.Goals as goal

pub returns-then-converged : goal.returns-then-converged
unfolding turn_from
returns-then-converged c = search (steps, c.by_width.ensures)

pub returns-then-found : goal.returns-then-found
unfolding turn_from
returns-then-found c = search steps
