use Rattle.numerical.proofs.Choices.{choices}
use Rattle.polynom.proofs.both_if_finite.Goals as goal

pub returns-then-is_finite-2 : goal.returns-then-is_finite-2
returns-then-is_finite-2 c = search choices
