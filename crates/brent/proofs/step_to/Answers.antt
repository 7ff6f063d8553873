use Rattle.searching.proofs.StepLaws.{by_narrow_to}
use Rattle.brent.proofs.BrentLaws.{moved_larger}
use Rattle.brent.proofs.step_to.Goals as goal

pub returns-then-abs : goal.returns-then-abs
returns-then-abs c = λ cs. search (by_narrow_to, moved_larger)
