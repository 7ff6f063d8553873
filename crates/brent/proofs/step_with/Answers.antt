use Rattle.searching.proofs.StepLaws.{steps}
use Rattle.brent.specs.Brent.{step_with, pulled_in, landed, arrived, next_of}
use Rattle.brent.proofs.step_with.Goals as goal

pub returns-then-is_finite : goal.returns-then-is_finite
unfolding step_with pulled_in landed arrived next_of
returns-then-is_finite c = search steps
