use Rattle.searching.proofs.StepLaws.{by_done}
use Rattle.polynom_search.specs.PolynomSearch.{width_at}
use Rattle.polynom_search.proofs.TurnLaws.{by_middle}
use Rattle.polynom_search.proofs.by_width.Goals as goal

pub returns : goal.returns
unfolding width_at
returns c = search (by_middle, by_done)
