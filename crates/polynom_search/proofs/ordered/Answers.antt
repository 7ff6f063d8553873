use Rattle.searching.proofs.StepLaws.{steps}
use Rattle.polynom_search.specs.PolynomSearch.{ordered}
use Rattle.polynom_search.proofs.ordered.Goals as goal

pub returns : goal.returns
unfolding ordered
returns c = λ stop. search (steps, c.first_at.ensures)
