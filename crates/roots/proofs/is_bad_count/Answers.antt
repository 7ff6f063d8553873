use Rattle.numerical.proofs.Choices.{choices}
use Rattle.roots.specs.Calls.{bad_count}
use Rattle.roots.proofs.is_bad_count.Goals as goal

pub returns-then-count-eq0 : goal.returns-then-count-eq0
unfolding bad_count
returns-then-count-eq0 c = search choices

pub returns-else-count-eq0 : goal.returns-else-count-eq0
unfolding bad_count
returns-else-count-eq0 c = search choices
