use Rattle.brent.specs.Brent.{step_departs}
use Rattle.searching.proofs.RuleLaws.{unequal_differ}
use Rattle.brent.proofs.opposite.Goals as goal

pub returns : goal.returns
unfolding step_departs
returns c = rw (c.ruled.ensures, ← c.opposite_sign-unlike.ensures, ← c.is_below-below.ensures, ← unequal_differ)
