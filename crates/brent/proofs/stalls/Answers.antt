use Rattle.brent.specs.Brent.{stalls}
use Rattle.numerical.proofs.Choices.{choices}
use Rattle.brent.proofs.stalls.Goals as goal

pub returns-else-too_slow : goal.returns-else-too_slow
unfolding stalls
returns-else-too_slow c = search choices
