use Rattle.searching.proofs.StepLaws.{steps}
use Rattle.polynom_search.specs.PolynomSearch.{opening}
use Rattle.polynom_search.proofs.opening.Goals as goal

pub returns : goal.returns
unfolding opening
returns c = λ stop. search (steps, c.ordered.ensures)
