use Rattle.numerical.proofs.Choices.{choices}
use Rattle.simple_convergency.specs.Stop.{bad_tolerance}
use Rattle.simple_convergency.proofs.is_bad_tolerance.Goals as goal

pub returns-then-is_finite : goal.returns-then-is_finite
unfolding bad_tolerance
returns-then-is_finite c = search choices

pub returns-else-is_finite : goal.returns-else-is_finite
unfolding bad_tolerance
returns-else-is_finite c = search choices
