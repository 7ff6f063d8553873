use Rattle.brent.specs.Brent.{too_slow}
use mathlib.Core.Path.{refl}
use Rattle.brent.proofs.too_slow.Goals as goal

pub returns : goal.returns
unfolding too_slow
returns c = rw (c.abs.ensures, c.abs-2.ensures) refl
