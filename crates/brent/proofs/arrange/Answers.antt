use Rattle.brent.proofs.BrentLaws.{first_larger}
use Rattle.brent.proofs.arrange.Goals as goal

pub returns-then-abs : goal.returns-then-abs
returns-then-abs c = search first_larger
