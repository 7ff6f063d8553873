use Rattle.numerical.proofs.Choices.{choices}
use Rattle.numerical.specs.Middle.{crosses}
use Rattle.numerical.proofs.Interval.crosses.Goals as goal

pub returns-then-same_sign : goal.returns-then-same_sign
unfolding crosses
returns-then-same_sign c = search choices

pub returns : goal.returns
unfolding crosses
returns c = search choices
