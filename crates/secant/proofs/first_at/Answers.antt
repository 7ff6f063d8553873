use Rattle.searching.proofs.StepLaws.{steps, by_missed, by_no_value}
use Rattle.secant.specs.Secant.{first_at}
use Rattle.secant.proofs.first_at.Goals as goal

pub returns-in_default : goal.returns-in_default
unfolding first_at
returns-in_default c = search (by_missed, by_no_value)

pub returns-then-found : goal.returns-then-found
unfolding first_at
returns-then-found c = search steps
