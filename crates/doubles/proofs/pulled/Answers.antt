-- `doubles::pulled` meets its contract. Assumes nothing.
use Rattle.doubles.specs.Doubles.{pulled}
use Rattle.doubles.proofs.pulled.Goals as goal

pub returns-then-u-v : goal.returns-then-u-v
unfolding pulled
returns-then-u-v c = rw (c.clamp.ensures, c.if-u-v.true)

pub returns-else-u-v : goal.returns-else-u-v
unfolding pulled
returns-else-u-v c = rw (c.clamp-else-u-v.ensures, c.if-u-v.false)
