use Rattle.numerical.proofs.Choices.{choices}
use Rattle.roots.specs.Methods.{start_count}
use Rattle.roots.proofs.Method.start_count.Goals as goal

pub returns-then-number-eq4 : goal.returns-then-number-eq4
unfolding start_count
returns-then-number-eq4 c = search choices

pub returns-else-number-eq4 : goal.returns-else-number-eq4
unfolding start_count
returns-else-number-eq4 c = search choices
