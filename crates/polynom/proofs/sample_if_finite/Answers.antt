use Rattle.numerical.proofs.Choices.{choices}
use Rattle.polynom.proofs.sample_if_finite.Goals as goal

pub returns-then-is_finite : goal.returns-then-is_finite
returns-then-is_finite c = search choices

pub returns-else-is_finite : goal.returns-else-is_finite
returns-else-is_finite c = search choices
