use Rattle.searching.proofs.StepLaws.{steps}
use Rattle.polynom_search.specs.PolynomSearch.{first_at}
use Rattle.polynom_search.proofs.first_at.Goals as goal

pub returns : goal.returns
unfolding first_at
returns c = λ stop. search (steps, c.second_at.ensures)
