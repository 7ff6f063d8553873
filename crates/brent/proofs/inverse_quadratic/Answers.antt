use Rattle.brent.specs.Brent.{inverse_quadratic}
use mathlib.Core.Path.{refl}
use Rattle.brent.proofs.inverse_quadratic.Goals as goal

pub returns : goal.returns
unfolding inverse_quadratic
returns c = refl
