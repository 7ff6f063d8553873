use Rattle.searching.proofs.StepLaws.{steps}
use Rattle.brent.specs.Brent.{start_of, opened}
use Rattle.brent.proofs.opened.Goals as goal

pub returns-then-decided : goal.returns-then-decided
unfolding opened
returns-then-decided c = λ stop cs. search steps

pub returns : goal.returns
unfolding opened start_of
returns c = λ stop cs. search steps
