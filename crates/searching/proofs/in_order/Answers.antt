use Rattle.numerical.proofs.Choices.{choices}
use Rattle.searching.proofs.in_order.Goals as goal

pub returns-then-from-to : goal.returns-then-from-to
returns-then-from-to c = search choices

pub returns-else-from-to : goal.returns-else-from-to
returns-else-from-to c = search choices
