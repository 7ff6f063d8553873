use Rattle.numerical.proofs.Choices.{choices}
use Rattle.polynom_search.specs.PolynomSearch.{in_pair}
use Rattle.polynom_search.proofs.in_pair.Goals as goal

pub returns-then-i-x : goal.returns-then-i-x
unfolding in_pair
returns-then-i-x c = search choices
