use Rattle.polynom_search.specs.PolynomSearch.{closer}
use Rattle.searching.proofs.StepLaws.{steps}
use Rattle.polynom_search.proofs.closer.Goals as goal

pub returns-then-abs : goal.returns-then-abs
unfolding closer
returns-then-abs c = λ cs. rw (← c.abs.ensures, ← c.abs-2.ensures) (search (steps, c.chosen.ensures))
