-- `searching::alike` meets its contract. Assumes nothing.
use Rattle.searching.specs.Programs.{product_departs}
use Rattle.searching.proofs.RuleLaws.{unequal_differ}
use Rattle.searching.proofs.alike.Goals as goal

pub returns : goal.returns
unfolding product_departs
returns c = rw (c.ruled.ensures, ← c.same_sign-same.ensures, ← c.is_above-above.ensures, ← unequal_differ)
